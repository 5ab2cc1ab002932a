use Rattle.std.proofs.Common.{◌+◌, ◌<◌, ◌≤◌}
use Rattle.jb_collect.specs.AnsweredCalls.{Grew}
use Rattle.jb_step.specs.inside.rounds.Round.{progress}
use Rattle.jb_step.specs.inside.rounds.SoFar.{AreWithin, IsOpen}
use Rattle.jb_step.proofs.rounds.runner.RoundRunner.run_plan.Given as goal

abbrev pub invariant-loop-round : goal.invariant-loop-round
invariant-loop-round g l =
    let calls = (goal.Analyzer-dyn g l.fn.analyzer.now).analyzed l.fn.analyzer.now.1 in
    let later = (goal.Analyzer-dyn g l.analyzer.now).analyzed l.analyzer.now.1 in
    IsOpen l.prepared l.cursor l.round (progress g.T.PartitionTask.task_state calls l.fn.ran) (progress g.T.PartitionTask.task_state later l.ran)
    × (l.round < l.rounds)
    × AreWithin l.round_limit (l.ran.rounds + 1)
    × Grew calls later
    × (l.ran.rounds + l.fn.ran.attempts ≤ l.ran.attempts + l.fn.ran.rounds)
