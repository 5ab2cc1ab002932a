use Rattle.std.proofs.Common.{◌≡◌, ◌-◌, ◌≤◌, false}
use Rattle.jb_collect.specs.AnsweredCalls.{Grew}
use Rattle.jb_step.specs.Short.{all_attempts_left}
use Rattle.jb_step.specs.Tables.{held_in}
use Rattle.jb_step.specs.rounds.PlanLaws.{IsTaskTable}
use Rattle.jb_step.specs.inside.table.Places.{table_in}
use Rattle.jb_step.specs.inside.rounds.Round.{progress, table_of}
use Rattle.jb_step.specs.inside.rounds.SoFar.{IsRunOfStepSoFar, at_first}
use Rattle.jb_step.specs.inside.callbacks.Telling.{moment}
use Rattle.jb_step.proofs.rounds.runner.RoundRunner.run_rounds.Given as goal

abbrev pub invariant-plans : goal.invariant-plans
invariant-plans g l =
    let task_state = g.T.PartitionTask.task_state in
    let calls = (goal.Analyzer-dyn g l.fn.analyzer.now).analyzed l.fn.analyzer.now.1 in
    let later = (goal.Analyzer-dyn g l.analyzer.now).analyzed l.analyzer.now.1 in
    IsRunOfStepSoFar l.prepared l.round_limit false (at_first (moment calls l.fn.fault) (table_in task_state l.fn.tasks.items)) (progress task_state later l.ran)
    × IsTaskTable l.prepared (table_of task_state l.ran)
    × Grew calls later
    × (l.ran.stopped ≡ false)
    × (l.ran.rounds ≤ l.ran.attempts)

-- the attempts that the tasks had left at first, less a round for each that was run
abbrev pub decreases-plans : goal.decreases-plans
decreases-plans g l = all_attempts_left (held_in (table_in g.T.PartitionTask.task_state l.fn.tasks.items)) - l.ran.rounds
