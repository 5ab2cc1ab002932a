-- What `run_step` answers.
use Rattle.std.specs.Prelude.{◌≡◌, ℕ, nat_eq, ◌≤◌, true, false, ◌||◌, if◌then◌else◌, MatchOption, Option, List, [], ◌∷◌, map, length, slice_index_or}
use Rattle.jb_rules.specs.declared.row.Row.{Row}
use Rattle.jb_artifacts.specs.Meaning.{ArtifactsMeaning}
use Rattle.jb_chunk.specs.TaskState.{TaskState}
use Rattle.jb_repo.specs.declared.snapshot.Snapshot.{Snapshot}
use Rattle.jb_collect.specs.declared.calls.AnalyzerCall.{AnalyzerCall}
use Rattle.jb_collect.specs.declared.calls.ReducerCall.{ReducerCall}
use Rattle.jb_collect.specs.declared.calls.ReducerCall.TheVariants.{Before}
use Rattle.jb_collect.specs.declared.calls.Status.{Status}
use Rattle.jb_step.specs.declared.error.StepError.{StepError}
use Rattle.jb_step.specs.declared.error.StepError.TheVariants.{WrongArtifacts, Repository, Workers, Memory}
use Rattle.jb_cert.specs.declared.notes.PlanNote.{PlanNote}
use Rattle.jb_collect.specs.ReducerCalls.{before_failed, calls_after, rolled_back}
use Rattle.jb_collect.specs.AnsweredCalls.{AnsweredCall, calls_of, well}
use Rattle.jb_step.specs.callbacks.Heard.{heard, HasHeard}
use Rattle.jb_step.specs.callbacks.Callbacks.{AreSome, has_fault}
use Rattle.jb_step.specs.rounds.Runs.{PlanRun, AreOver, ArePlanRuns, note_of, rounds_of, table_after, events_of}
use Rattle.jb_step.specs.preparing.Setup.{Setup, first_table, first_tasks, rows_now}
use Rattle.jb_step.specs.Statuses.{status_of}
use Rattle.jb_step.specs.Alone.{AreOnTheWay, have_ended}
use Rattle.jb_step.specs.Tables.{Table, held_in}

-- the artifacts that came back, each with its partition
abbrev pub given_back : {A : Type 0} → (A → ArtifactsMeaning) → List (ℕ × A) → List (ℕ × ArtifactsMeaning)
given_back meaning left = map (λ a. (a.0, meaning a.1)) left

-- the artifacts of these tasks, each with its partition
abbrev pub artifacts_of : List TaskState → List (ℕ × ArtifactsMeaning)
artifacts_of ts = map (λ t. (t.partition, t.artifacts)) ts

-- a partition's artifacts as they came back, or these, if none of the partition came back
abbrev pub newer : List (ℕ × ArtifactsMeaning) → ℕ → ArtifactsMeaning → ArtifactsMeaning
newer [] p artifacts = artifacts
newer (a ∷ left) p artifacts = if nat_eq a.0 p then a.1 else newer left p artifacts

-- a task as it was left: with its partition's row, and with the artifacts that came back
abbrev pub task_left : List Row → List (ℕ × ArtifactsMeaning) → TaskState → TaskState
task_left rows left t = record t { row = slice_index_or rows t.partition t.row; artifacts = newer left t.partition t.artifacts }

-- the tasks that the run began with, as they were left
abbrev pub tasks_left : List TaskState → List Row → List (ℕ × ArtifactsMeaning) → List TaskState
tasks_left ts rows left = map (task_left rows left) ts

-- and each of them was left on the way to where its attempts alone end
abbrev pub AreLeftOnTheWay : List TaskState → List Row → List (ℕ × ArtifactsMeaning) → Type 0
AreLeftOnTheWay ts rows left = AreOnTheWay ts (tasks_left ts rows left)

-- what holds if nothing stopped the run: all partitions ended, and all plans are over; and the history's numbers
pub record IsUnstopped (start : Table) (plans : List PlanRun) (snapshot : Snapshot) : Type 0 where
  pub ended : have_ended (held_in (table_after plans start)) ≡ true
  pub over : AreOver start plans
  pub plans_number : snapshot.plans ≡ length plans
  pub events_number : snapshot.events ≡ events_of plans start

-- One run of a step. First what it was given: what it was prepared with, the artifacts, and the greatest number of rounds. Then the calls
-- that its analyzer had taken when it began, and at its end. Then its notes, its snapshot, and the artifacts handed back.
pub record StepRun : Type 0 where
  pub setup : Setup
  pub artifacts : List ArtifactsMeaning
  pub round_limit : Option ℕ
  pub heard_before : List (AnsweredCall AnalyzerCall)
  pub heard_after : List (AnsweredCall AnalyzerCall)
  pub notes : List PlanNote
  pub snapshot : Snapshot
  pub left : List (ℕ × ArtifactsMeaning)

-- the tasks that it began with, and those that it left, of the partitions that were unfinished when it began
abbrev pub tasks_before : StepRun → List TaskState
tasks_before r = first_tasks r.setup r.artifacts

abbrev pub tasks_after : StepRun → List TaskState
tasks_after r = tasks_left (tasks_before r) r.snapshot.rows.items r.left

-- the table that it began with
abbrev pub table_before : StepRun → Table
table_before r = first_table r.setup r.artifacts

-- the tasks in the table that these plans left
abbrev pub tasks_by : StepRun → List PlanRun → List TaskState
tasks_by r plans = held_in (table_after plans (table_before r))

-- Run of a step: some plans were run, one after another, each a least one for what was left. These are its notes, its rows, its artifacts,
-- and the calls that the analyzer took.
pub record IsRunOfStep (r : StepRun) : Type 0 where
  pub plans : List PlanRun
  pub run : ArePlanRuns r.setup (table_before r) plans
  pub notes_are : r.notes ≡ map note_of plans
  pub few : MatchOption r.round_limit (Unit {0}) (λ limit. length (rounds_of plans) ≤ limit)
  pub rows : r.snapshot.rows.items ≡ rows_now r.setup.rows (tasks_by r plans)
  pub tasks : tasks_after r ≡ tasks_by r plans
  pub came_back : r.left ≡ artifacts_of (tasks_by r plans)
  pub heard_is : HasHeard r.heard_before (heard r.setup (table_before r) plans) r.heard_after
  pub unstopped : r.snapshot.stopping ≡ false → IsUnstopped (table_before r) plans r.snapshot

-- the status, by the rows and by whether a callback answered a fault
abbrev pub IsStatus : Snapshot → List (AnsweredCall AnalyzerCall) → List (AnsweredCall ReducerCall) → Status → Type 0
IsStatus snapshot analyzed reduced status = status ≡ status_of snapshot.rows.items (has_fault analyzed || has_fault reduced)

-- the reducer's calls at the end, by the step's status before them and by what `before_completion` answered
abbrev pub AreCallsAfter : Snapshot → List (AnsweredCall AnalyzerCall) → List (AnsweredCall ReducerCall) → Type 0
AreCallsAfter snapshot analyzed reduced =
    calls_of reduced ≡ calls_after (status_of snapshot.rows.items (has_fault analyzed)) (before_failed reduced)

-- The reducer's calls when memory ran out: some of these, in their order. If `before_completion` was answered well, it is the only one:
-- `after(Commit)`, which is called then, found no memory.
pub record AreCallsInPart (reduced : List (AnsweredCall ReducerCall)) : Type 0 where
  pub some : AreSome (calls_of reduced) (Before ∷ rolled_back)
  pub alone : (more : List (AnsweredCall ReducerCall)) → reduced ≡ well Before ∷ more → more ≡ []

-- the reducer's calls after an error: the step was rolled back, whatever that was answered
abbrev pub AreCallsUndone : StepError → List (AnsweredCall ReducerCall) → Type 0
AreCallsUndone Memory reduced = AreCallsInPart reduced
AreCallsUndone _ reduced = calls_of reduced ≡ rolled_back

-- The errors of a run: the artifacts don't fit the step, the desk isn't its own or refused an event, a worker could not be started, or
-- memory ran out. Plans, mappers and the reducer's `begin` belong to the preparation.
abbrev pub IsRunError : StepError → Type 0
IsRunError WrongArtifacts = Unit {0}
IsRunError (Repository partition) = Unit {0}
IsRunError Workers = Unit {0}
IsRunError Memory = Unit {0}
IsRunError _ = ⊥
