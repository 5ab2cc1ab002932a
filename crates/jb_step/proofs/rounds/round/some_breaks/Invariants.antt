use Rattle.std.proofs.Common.{◌≡◌, drop}
use Rattle.jb_collect.specs.Heard.{endings_of}
use Rattle.jb_step.specs.rounds.Rounds.{breaks_in}
use Rattle.jb_step.proofs.rounds.round.some_breaks.Given as goal

abbrev pub invariant-loop-done : goal.invariant-loop-done
invariant-loop-done g l =
    breaks_in (endings_of g.T.PartitionTask.task_state (drop l.done-index l.dones)) ≡ breaks_in (endings_of g.T.PartitionTask.task_state l.dones)
