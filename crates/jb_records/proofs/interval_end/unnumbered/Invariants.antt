use Rattle.std.proofs.Common.{◌≡◌, ◌++◌, map}
use Rattle.std.specs.Vec.Iter.{into_iter_items}
use Rattle.jb_step.specs.Answers.{given_back}
use Rattle.jb_records.specs.Intervals.{artifacts_in}
use Rattle.jb_records.proofs.interval_end.unnumbered.Given as goal

abbrev pub invariant-loop-one : goal.invariant-loop-one
invariant-loop-one g l =
    map g.A.Meaning.meaning l.all.items ++ artifacts_in (given_back g.A.Meaning.meaning (into_iter_items l.one-iterator)) ≡ artifacts_in (given_back g.A.Meaning.meaning l.fn.artifacts.items)
