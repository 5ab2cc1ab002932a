use Rattle.std.proofs.Common.{◌≡◌}
use Rattle.jb_rules.specs.declared.row.RowState.TheVariants.{Waiting}
use Rattle.jb_chunk.specs.Alone.{attempts_left}
use Rattle.jb_chunk.specs.TaskState.{IsReady}
use Rattle.jb_chunk.proofs.RunsAlone.{HasRoom, IsUnderWay}
use Rattle.jb_chunk.proofs.alone.run_alone.Given as goal

-- the task is to be attempted again
abbrev pub invariant-loop-task : goal.invariant-loop-task
invariant-loop-task g l =
    let task_state = g.T.PartitionTask.task_state in
    record {
      waiting : (task_state l.task).row.state ≡ Waiting;
      room : HasRoom (task_state l.task);
      ready : IsReady (task_state l.task);
      reached : IsUnderWay (task_state l.fn.task) (task_state l.task);
    }

abbrev pub decreases-loop-task : goal.decreases-loop-task
decreases-loop-task g l = attempts_left (g.T.PartitionTask.task_state l.task)
