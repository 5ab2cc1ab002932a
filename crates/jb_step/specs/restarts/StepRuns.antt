-- Runs of a step, one after another.
use Rattle.std.specs.Prelude.{◌≡◌, not, List, [], ◌∷◌, map, filter}
use Rattle.jb_rules.specs.States.{is_finished}
use Rattle.jb_artifacts.specs.Meaning.{ArtifactsMeaning}
use Rattle.jb_chunk.specs.TaskState.{TaskState}
use Rattle.jb_step.specs.Answers.{IsRunOfStep, StepRun, tasks_before, tasks_left}
use Rattle.jb_step.specs.preparing.Prepare.{DoFit}
use Rattle.jb_step.specs.preparing.Setup.{rows_now}
use Rattle.jb_step.specs.Alone.{AreAlone, AreOnTheWay}

-- what `run_step` says of an answer
pub record IsAnswered (r : StepRun) : Type 0 where
  pub fit : DoFit r.setup r.artifacts
  pub run : IsRunOfStep r

-- of tasks as a run left them, those that it left unfinished, and their artifacts
abbrev pub tasks_unfinished : List TaskState → List TaskState
tasks_unfinished ts = filter (λ t. not (is_finished t.row.state)) ts

abbrev pub artifacts_restarted : List TaskState → List ArtifactsMeaning
artifacts_restarted ts = map (λ t. t.artifacts) (tasks_unfinished ts)

-- SEVERAL RUNS: a first one, and later ones, in the order of time

abbrev pub last_run : StepRun → List StepRun → StepRun
last_run first [] = first
last_run first (run ∷ later) = last_run run later

-- tasks as the runs leave them, one after another
abbrev pub tasks_through : List TaskState → List StepRun → List TaskState
tasks_through ts [] = ts
tasks_through ts (run ∷ later) = tasks_through (tasks_left ts run.snapshot.rows.items run.left) later

-- the tasks of the partitions that were unfinished at first, as all runs left them
abbrev pub tasks_at_last : StepRun → List StepRun → List TaskState
tasks_at_last first later = tasks_through (tasks_before first) (first ∷ later)

-- each of them is where some of its attempts alone from the first start lead, and all other partitions are as they were then
pub record StandOnTheWay (first : StepRun) (later : List StepRun) : Type 0 where
  pub tasks : AreOnTheWay (tasks_before first) (tasks_at_last first later)
  pub rows : (last_run first later).snapshot.rows.items ≡ rows_now first.setup.rows (tasks_at_last first later)

-- each of them is where its attempts alone from the first start end, and all other partitions are as they were then
pub record StandAtTheEnd (first : StepRun) (later : List StepRun) : Type 0 where
  pub tasks : AreAlone (tasks_before first) (tasks_at_last first later)
  pub rows : (last_run first later).snapshot.rows.items ≡ rows_now first.setup.rows (tasks_at_last first later)
