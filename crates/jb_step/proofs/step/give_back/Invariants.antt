use Rattle.std.proofs.Common.{◌≡◌, ◌++◌}
use Rattle.std.specs.Vec.Iter.{into_iter_items}
use Rattle.jb_step.specs.Answers.{artifacts_of, given_back}
use Rattle.jb_step.specs.Tables.{held_in}
use Rattle.jb_step.specs.inside.table.Places.{table_in}
use Rattle.jb_step.proofs.step.give_back.Given as goal

abbrev pub invariant-loop-place : goal.invariant-loop-place
invariant-loop-place g l =
    given_back g.T.Artifacts.Meaning.meaning l.left.items ++ artifacts_of (held_in (table_in g.T.PartitionTask.task_state (into_iter_items l.place-iterator)))
    ≡ artifacts_of (held_in (table_in g.T.PartitionTask.task_state l.fn.held.items))
