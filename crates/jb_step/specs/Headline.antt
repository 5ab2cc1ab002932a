-- The headline: what any run of a step did, for any ranges, item count, thread number and order of commits. It requires only that
-- `run_step` answered. Plans and rounds are listed in the order in which they were made and run.
use Rattle.std.specs.Prelude.{◌≡◌, ℕ, ◌<◌, ◌≤◌, ◌-◌, false, List, [], ◌∷◌, length, map, take, slice_index, slice_get, Contains, Some}
use Rattle.jb_plan.specs.Blocks.{blocks}
use Rattle.jb_cert.specs.Certificates.{Holds}
use Rattle.jb_cert.specs.Lawful.{Pair, IsLawful, NoneIsShorter}
use Rattle.jb_chunk.specs.Attempt.{block_of}
use Rattle.jb_chunk.specs.TaskState.{TaskState}
use Rattle.jb_step.specs.Alone.{AreAlone}
use Rattle.jb_step.specs.Answers.{StepRun, artifacts_of, table_before, tasks_before, tasks_after}
use Rattle.jb_step.specs.rounds.Rounds.{GoQuietly, after_round, after_rounds}
use Rattle.jb_step.specs.rounds.Runs.{PlanRun, note_of, rounds_run}
use Rattle.jb_step.specs.preparing.Setup.{IsSetup, Setup, counts_now, rows_now}
use Rattle.jb_step.specs.restarts.StepRuns.{IsAnswered}
use Rattle.jb_step.specs.Tables.{Table, held_in, held_at}

-- ---- rounds, run one after another

-- chunk j of the partition is block j of those that it had left before, and the next one that it has left now
pub record IsNextBlock (before now : Table) (p j : ℕ) : Type 0 where
  pub was : TaskState
  pub is : TaskState
  pub stood : held_at before p ≡ Some was
  pub stands : held_at now p ≡ Some is
  pub next : slice_get (blocks was.row.at was.row.redo was.row.hi was.item_count) j ≡ Some (block_of is)

-- each of their chunks is its partition's next block when its round begins; `before` is the table that they were planned for
abbrev pub RunInOrder : (before now : Table) → List (List Pair) → Type 0
RunInOrder before now [] = Unit {0}
RunInOrder before now (set ∷ later) =
    ((p j : ℕ) → Contains set (p, j) → IsNextBlock before now p j) × RunInOrder before (after_round set now) later

-- ---- a plan

-- no partition has a chunk that isn't committed yet, but for those that failed
abbrev pub NoneIsLeft : Setup → Table → Type 0
NoneIsLeft s now = (p : ℕ) → p < length s.rows → slice_index (counts_now s now) p ≡ 0

-- nothing ended the plan: no rollback, no failure, and no stop (which can end only a step's last plan)
pub record IsUnended (r : StepRun) (before : Table) (plan : PlanRun) (later : List PlanRun) : Type 0 where
  pub quiet : GoQuietly (rounds_run plan) before
  pub unstopped : later ≡ [] → r.snapshot.stopping ≡ false

-- a plan that the step made for the table as it was before it, and those that it made later
pub record IsPlanOf (r : StepRun) (before : Table) (plan : PlanRun) (later : List PlanRun) : Type 0 where
  -- it has exactly the chunks not yet committed, each of them once, each partition's in order,
  pub exactly : IsLawful (counts_now r.setup before) r.setup.threads plan.rounds
  -- in the fewest rounds of all lawful plans,
  pub fewest : NoneIsShorter (counts_now r.setup before) r.setup.threads (length plan.rounds)
  -- with a certificate of it;
  pub certified : Holds (counts_now r.setup before) r.setup.threads (length plan.rounds) plan.certificate
  -- its first rounds were run, each partition's chunks in order,
  pub among : plan.ran ≤ length plan.rounds
  pub in_order : RunInOrder before before (rounds_run plan)
  -- no round follows one with a rollback or a failure,
  pub no_further : GoQuietly (take (plan.ran - 1) plan.rounds) before
  -- and, unless something ended it, all of them: then no chunk is left
  pub whole : IsUnended r before plan later → (plan.ran ≡ length plan.rounds) × NoneIsLeft r.setup (after_rounds (rounds_run plan) before)

-- the plans, each made for what the one before it left; the last one leaves the tasks as the step left them
abbrev pub ArePlansOf : StepRun → (before : Table) → List PlanRun → Type 0
ArePlansOf r before [] = tasks_after r ≡ held_in before
ArePlansOf r before (plan ∷ later) = IsPlanOf r before plan later × ArePlansOf r (after_rounds (rounds_run plan) before) later

-- ---- the headline

pub record Headline (r : StepRun) : Type 0 where
  -- each plan has exactly the chunks not yet committed, each partition's in order;
  -- it has the fewest rounds of all lawful plans, with a certificate of it; and these are its notes,
  pub plans : List PlanRun
  pub each : ArePlansOf r (table_before r) plans
  pub noted : r.notes ≡ map note_of plans
  -- a step that returns unstopped has the artifacts (the outputs) and the rows (the checkpoints and the counts) of its partitions run alone;
  -- this holds for every thread number and order of commits,
  pub alone : r.snapshot.stopping ≡ false → AreAlone (tasks_before r) (tasks_after r)
  -- and the rows are the tasks' own; a partition without a task has the one that was prepared;
  pub rows : r.snapshot.rows.items ≡ rows_now r.setup.rows (tasks_after r)
  -- and so are the artifacts that came back: each task's once, in their order, and no others
  pub came_back : r.left ≡ artifacts_of (tasks_after r)

-- it holds of each run that `run_step` answers, on rows that `prepare` gave
abbrev pub HeadlineHolds : Type 0
HeadlineHolds = (r : StepRun) → IsSetup r.setup → IsAnswered r → Headline r

-- two unstopped runs that began alike end alike, with the same rows and artifacts, for any threads, plans and order of commits
abbrev pub UnstoppedRunsAgree : Type 0
UnstoppedRunsAgree =
    (r other : StepRun) → Headline r → Headline other → other.setup.rows ≡ r.setup.rows → tasks_before other ≡ tasks_before r
    → r.snapshot.stopping ≡ false → other.snapshot.stopping ≡ false
    → (other.snapshot.rows.items ≡ r.snapshot.rows.items) × (other.left ≡ r.left)
