use Rattle.std.proofs.Common.{◌≡◌, drop}
use Rattle.jb_step.specs.Alone.{have_ended}
use Rattle.jb_step.specs.Tables.{held_in}
use Rattle.jb_step.specs.inside.table.Places.{table_in}
use Rattle.jb_step.proofs.rounds.run.all_ended.Given as goal

abbrev pub invariant-loop-place : goal.invariant-loop-place
invariant-loop-place g l =
    have_ended (held_in (table_in g.T.PartitionTask.task_state (drop l.place-index l.held))) ≡ have_ended (held_in (table_in g.T.PartitionTask.task_state l.held))
