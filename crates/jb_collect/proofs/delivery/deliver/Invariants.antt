use Rattle.std.proofs.Common.{take, None}
use Rattle.jb_collect.specs.Heard.{heard_in, endings_of}
use Rattle.jb_collect.specs.AnsweredCalls.{HasTaken}
use Rattle.jb_collect.proofs.delivery.deliver.Given as goal

abbrev pub invariant-loop-done : goal.invariant-loop-done
invariant-loop-done g l =
    HasTaken ((goal.Analyzer-dyn g l.fn.analyzer.now).analyzed l.fn.analyzer.now.1)
    (heard_in (endings_of g.T.PartitionTask.task_state (take l.done-index l.dones)))
    None
    ((goal.Analyzer-dyn g l.analyzer.now).analyzed l.analyzer.now.1)
