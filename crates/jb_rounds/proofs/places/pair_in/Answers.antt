use Rattle.std.proofs.Common.{List, ℕ, subst, sym, arith}
use Rattle.std.specs.List.Sorted.{IsNonDecreasing}
use Rattle.jb_rounds.specs.inside.Starts.{counts_between}
use Rattle.jb_rounds.proofs.PrefixSums.{found, last_start, starts_from-rises, pair_found, none_past}
use Rattle.jb_rounds.proofs.places.pair_in.Goals as goal

pub returns-then-place-chunk_total : goal.returns-then-place-chunk_total
returns-then-place-chunk_total c = none_past (counts_between c.args.starts.now) c.args.rounds c.args.place (omega (arith, c.chunk_total.ensures))

pub partition_near-partition-requires-clause-some : goal.partition_near-partition-requires-clause-some
partition_near-partition-requires-clause-some c = (last_start c.args.starts.now c.requires.indexed).0

pub partition_near-partition-requires-clause-from : goal.partition_near-partition-requires-clause-from
partition_near-partition-requires-clause-from c = omega (arith, (last_start c.args.starts.now c.requires.indexed).2)

pub partition_near-partition-requires-clause-until : goal.partition_near-partition-requires-clause-until
partition_near-partition-requires-clause-until c = omega (arith, (last_start c.args.starts.now c.requires.indexed).1, c.chunk_total.ensures)

pub partition_near-partition-requires-clause-rising : goal.partition_near-partition-requires-clause-rising
partition_near-partition-requires-clause-rising c =
    subst (λ (xs : List ℕ). IsNonDecreasing xs) (sym c.requires.indexed) (starts_from-rises (counts_between c.args.starts.now))

pub chunk_in-requires-clause-few_chunks : goal.chunk_in-requires-clause-few_chunks
chunk_in-requires-clause-few_chunks c =
    let at = found c.args.starts.now c.args.place c.partition_near-partition.result c.requires.indexed c.partition_near-partition.ensures in
    omega (arith, at.start_is, at.count_is, at.end, c.requires.few_chunks)

pub returns : goal.returns
returns c =
    pair_found c.places_lie_round.ensures c.args.starts.now c.args.place c.partition_near-partition.result c.args.rounds c.chunk_in.result c.requires.indexed c.partition_near-partition.ensures c.chunk_in.ensures
