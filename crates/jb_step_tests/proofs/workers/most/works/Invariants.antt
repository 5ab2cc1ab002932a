use Rattle.jb_workers.specs.Works.{AllCanBegin}
use Rattle.jb_step_tests.proofs.workers.most.works.Given as goal

abbrev pub invariant-loop-lane : goal.invariant-loop-lane
invariant-loop-lane g l = AllCanBegin g.T.PartitionTask.task_state l.works.items
