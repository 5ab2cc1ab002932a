use Rattle.std.specs.List.{AllAdjacentBelow}
use Rattle.std.proofs.Common.{◌≤◌}
use Rattle.jb_workers.proofs.round.order.rise.Given as goal

abbrev pub invariant-loop-i : goal.invariant-loop-i
invariant-loop-i g l = AllAdjacentBelow (λ x y. (g.T.PartitionTask.task_state x.task).partition ≤ (g.T.PartitionTask.task_state y.task).partition) l.works l.i
