use Rattle.std.proofs.Common.{◌≡◌, rules, ◌*◌, ◌≤◌, length, ap, arith}
use Rattle.std.proofs.lemmas.Nat.{mul-le}
use Rattle.jb_base.specs.Limits.{max_chunks, max_threads}
use Rattle.jb_cert.specs.WrapAround.{slot_of}
use Rattle.jb_rounds.specs.inside.Starts.{counts_between}
use Rattle.jb_rounds.proofs.Busy.{partition_known, chunk_known}
use Rattle.jb_rounds.proofs.PrefixSums.{length-starts_from}
use Rattle.jb_rounds.proofs.cursor.RoundCursor.slot_near.Goals as goal
use Rattle.jb_rounds.proofs.cursor.RoundCursor.slot_near.Goals.{After-from, After-pair_in}

few_rounds : (c : After-from) → c.self.inside.rounds ≤ max_chunks
few_rounds c = omega (arith, c.self.invariant.few_rounds, c.self.invariant.limits.few_chunks)

few_places : (c : After-from) → c.from.result * c.self.inside.rounds ≤ max_threads * max_chunks
few_places c =
    mul-le c.from.result c.self.inside.rounds max_threads max_chunks (omega (arith, c.self.invariant.limits.few_threads)) (few_rounds c)

pub overflow_mul-from : goal.overflow_mul-from
overflow_mul-from c = omega (arith, few_places (goal.at.overflow_mul-from c).After-from)

pub overflow_add-from : goal.overflow_add-from
overflow_add-from c =
    let from = (goal.at.overflow_add-from c).After-from in
    omega (arith, few_places from, few_rounds from)

pub pair_in-requires-clause-few_counts : goal.pair_in-requires-clause-few_counts
pair_in-requires-clause-few_counts c =
    let long = ap length c.self.invariant.indexed in
    omega (arith, long, length-starts_from 0 (counts_between c.self.inside.starts.items), c.self.invariant.limits.few_counts, ap length c.deref.ensures.value)

found : (c : After-pair_in) → c.pair_in.result ≡ slot_of c.args.self.now.counts c.args.self.now.threads c.args.round c.args.lane
found c = search rules

pub returns-clause-partition : goal.returns-clause-partition
returns-clause-partition c =
    let at = (goal.at.returns-clause-partition c).After-pair_in in
    partition_known c.args.self.now.counts c.args.self.now.threads c.args.round c.args.lane c.wrap_around_is_least.ensures.known c.pair_in.result (found at)

pub returns-clause-chunk : goal.returns-clause-chunk
returns-clause-chunk c =
    let at = (goal.at.returns-clause-chunk c).After-pair_in in
    chunk_known c.args.self.now.counts c.args.self.now.threads c.args.round c.args.lane c.wrap_around_is_least.ensures.known c.pair_in.result (found at)
