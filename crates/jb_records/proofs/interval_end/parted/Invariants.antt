use Rattle.std.proofs.Common.{◌≡◌, ◌++◌}
use Rattle.std.specs.Prelude.{filter}
use Rattle.std.specs.Vec.Iter.{into_iter_items}
use Rattle.jb_step.specs.Answers.{given_back}
use Rattle.jb_records.specs.inside.InMemory.{is_done, is_left}
use Rattle.jb_records.proofs.interval_end.parted.Given as goal

-- those so far are parted
abbrev pub invariant-loop-one : goal.invariant-loop-one
invariant-loop-one g l =
    (given_back g.A.Meaning.meaning l.finished.items ++ filter (is_done l.rows) (given_back g.A.Meaning.meaning (into_iter_items l.one-iterator)) ≡ filter (is_done l.rows) (given_back g.A.Meaning.meaning l.fn.artifacts.items))
    × (given_back g.A.Meaning.meaning l.left.items ++ filter (is_left l.rows) (given_back g.A.Meaning.meaning (into_iter_items l.one-iterator)) ≡ filter (is_left l.rows) (given_back g.A.Meaning.meaning l.fn.artifacts.items))
