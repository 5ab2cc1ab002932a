-- A step that is stopped, and restarted through its saved text, any number of times: what each call of it says.
use Rattle.std.specs.Prelude.{◌≡◌, ℕ, true, false, Result, Ok, Option, Some, None, List, [], ◌∷◌}
use Rattle.jb_job.specs.Reading.{tree_of}
use Rattle.jb_job.specs.Records.{StepRecord}
use Rattle.jb_base.specs.declared.class.ClassId.{ClassId}
use Rattle.jb_plan.specs.declared.plan.PartitionPlan.{PartitionPlan}
use Rattle.jb_saved.specs.GoingOn.{AreUnfailed, rows_restarted}
use Rattle.jb_saved.specs.Reading.{answer_of}
use Rattle.jb_saved.specs.SavedRows.{SavedRows, IsSaved}
use Rattle.jb_saved.specs.SavedTree.{saved_tree}
use Rattle.jb_step.specs.Answers.{StepRun, artifacts_of, tasks_after, tasks_before}
use Rattle.jb_step.specs.preparing.Prepare.{DoFit, IsPreparation}
use Rattle.jb_step.specs.preparing.Setup.{IsSetup, Setup, first_tasks}
use Rattle.jb_step.specs.restarts.StepRuns.{IsAnswered, StandAtTheEnd, StandOnTheWay, last_run, tasks_at_last, artifacts_restarted}

-- what `prepare` says of what the run began with, for some mapper
pub record IsPreparedFor (step : StepRecord) (saved : Option SavedRows) (r : StepRun) : Type 0 where
  pub records : ℕ
  pub mapped : Result PartitionPlan ClassId
  pub prepared : IsPreparation step records mapped saved r.setup
  pub setup : IsSetup r.setup

-- The step is restarted in four steps. The rows in which a run left it are saved, no partition having failed. They are written as a text.
-- The text is read. The step is prepared from what was read. Its artifacts are those that were handed back, or others that are the same
-- once they are opened at the checkpoints of the rows.
pub record IsRestart (step : StepRecord) (before next : StepRun) : Type 0 where
  pub unfailed : AreUnfailed before.snapshot.rows.items
  -- `Saved::of`
  pub saved : SavedRows
  pub saved_is : saved ≡ record { step = step.id; rows = before.snapshot.rows.items }
  pub kept : IsSaved saved
  -- `saved_text`
  pub text : List ℕ
  pub written : tree_of text ≡ Some (saved_tree saved)
  -- `read_saved`
  pub read : SavedRows
  pub answer : answer_of (tree_of text) ≡ Ok read
  -- `prepare`, whose plan may have another number of threads; a plan that replaces the partitions begins a new chain
  pub prepared : IsPreparedFor step (Some read) next
  pub goes_on : prepared.prepared.plan.replace ≡ false
  -- what `run_step` takes
  pub tasks : tasks_before next ≡ first_tasks next.setup (artifacts_restarted (tasks_after before))

-- each later run is a restart from what the run before it left; and `run_step` answered for it
abbrev pub AreRestarts : StepRecord → (before : StepRun) → List StepRun → Type 0
AreRestarts step before [] = Unit {0}
AreRestarts step before (run ∷ later) = IsRestart step before run × IsAnswered run × AreRestarts step run later

-- a first run of the step, or one that begins from the start, and its restarts
pub record IsChain (step : StepRecord) (first : StepRun) (later : List StepRun) : Type 0 where
  pub saved : Option SavedRows
  pub prepared : IsPreparedFor step saved first
  pub answered : IsAnswered first
  pub restarts : AreRestarts step first later

-- THE LAWS

-- a stopped step can be restarted: the artifacts that were handed back of its unfinished partitions fit them
abbrev pub RestartsFit : Type 0
RestartsFit =
    (step : StepRecord) (first : StepRun) (later : List StepRun) (saved : SavedRows) (s : Setup)
    → IsChain step first later → AreUnfailed (last_run first later).snapshot.rows.items
    → IsSaved saved → saved.rows ≡ (last_run first later).snapshot.rows.items → s.rows ≡ rows_restarted saved
    → DoFit s (artifacts_restarted (tasks_after (last_run first later)))

-- for each place where the runs left a partition, some of its attempts alone from the first start lead there
abbrev pub RestartsAreOnTheWay : Type 0
RestartsAreOnTheWay = (step : StepRecord) (first : StepRun) (later : List StepRun) → IsChain step first later → StandOnTheWay first later

-- once nothing stops the step, it leaves each partition where its attempts alone from the first start end
abbrev pub RestartsEndAlone : Type 0
RestartsEndAlone =
    (step : StepRecord) (first : StepRun) (later : List StepRun)
    → IsChain step first later → (last_run first later).snapshot.stopping ≡ false → StandAtTheEnd first later

-- the other run begins as the first one did; its number of threads may be another
pub record BeginAlike (first other : StepRun) : Type 0 where
  pub rows : other.setup.rows ≡ first.setup.rows
  pub tasks : tasks_before other ≡ tasks_before first

-- So it ends as a step that was never stopped. It has the same rows, and so the same checkpoints and counts. It has the same artifacts, and
-- so the same outputs.
abbrev pub RestartsEndAsUnstopped : Type 0
RestartsEndAsUnstopped =
    (step : StepRecord) (first : StepRun) (later : List StepRun) (unstopped : StepRun)
    → IsChain step first later → (last_run first later).snapshot.stopping ≡ false
    → IsChain step unstopped [] → BeginAlike first unstopped → unstopped.snapshot.stopping ≡ false
    → ((last_run first later).snapshot.rows.items ≡ unstopped.snapshot.rows.items) × (artifacts_of (tasks_at_last first later) ≡ unstopped.left)

-- A restart whose plan overrides what was saved is prepared as if nothing was saved. So it is the first run of a chain.
abbrev pub OverridesStartFresh : Type 0
OverridesStartFresh =
    (step : StepRecord) (records : ℕ) (mapped : Result PartitionPlan ClassId) (saved : Option SavedRows) (s : Setup) (plan : PartitionPlan)
    → mapped ≡ Ok plan → plan.replace ≡ true → IsPreparation step records mapped saved s → IsPreparation step records mapped None s
