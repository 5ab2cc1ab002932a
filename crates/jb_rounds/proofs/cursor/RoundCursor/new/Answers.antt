use Rattle.std.proofs.Common.{List, ℕ, subst, sym}
use Rattle.jb_cert.specs.Plans.{StandsForLeast}
use Rattle.jb_cert.specs.WrapAround.{wrapped_rounds}
use Rattle.jb_rounds.proofs.Made.{counts_made, index_made}
use Rattle.jb_rounds.proofs.cursor.RoundCursor.new.Goals as goal

pub invariant_of-result : goal.invariant_of-result
invariant_of-result c =
    let rounds = c.least_rounds-rounds.ensures in
    index_made c.args.counts.now c.in_ok-starts.starts.items c.args.threads _ _ c.in_ok-starts.ensures c.requires rounds.bound rounds.few rounds.room c.certificate_for.ensures

pub returns-clause-counts : goal.returns-clause-counts
returns-clause-counts c = counts_made c.args.counts.now c.in_ok-starts.starts.items c.in_ok-starts.ensures

pub returns-clause-least : goal.returns-clause-least
returns-clause-least c =
    subst (λ (cs : List ℕ). StandsForLeast c.args.counts.now c.args.threads (wrapped_rounds cs c.args.threads)) (sym (counts_made c.args.counts.now c.in_ok-starts.starts.items c.in_ok-starts.ensures))
    (c.wrap_around_is_least.ensures.least c.args.counts.now c.args.threads c.requires.some_thread)
