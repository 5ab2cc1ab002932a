-- What lets a plan be run to its end: the tables that a step holds.
use Rattle.std.specs.Prelude.{◌≡◌, ℕ, true, not, is_some, List, [], ◌∷◌, ◌++◌, ◌+◌, ◌<◌, length, map, option_map, slice_index, slice_get, Contains, Some}
use Rattle.std.specs.List.{AllByRecursion}
use Rattle.jb_base.specs.Pairwise.{Pairwise}
use Rattle.jb_plan.specs.Blocks.{blocks}
use Rattle.jb_rules.specs.States.{is_finished}
use Rattle.jb_artifacts.specs.Meaning.{ArtifactsMeaning}
use Rattle.jb_cert.specs.Lawful.{Pair, IsLawful, NoneIsShorter}
use Rattle.jb_chunk.specs.Attempt.{block_of}
use Rattle.jb_chunk.specs.TaskState.{TaskState, IsReady}
use Rattle.jb_step.specs.preparing.Prepare.{DoFit}
use Rattle.jb_step.specs.rounds.Rounds.{AreRun, CanRun, GoQuietly, after_round, after_rounds}
use Rattle.jb_step.specs.rounds.Runs.{PlanRun, ArePlanRuns, table_after}
use Rattle.jb_step.specs.preparing.Setup.{Setup, IsSetup, counts_now, needs, first_table, first_tasks, rows_now}
use Rattle.jb_step.specs.Alone.{have_ended}
use Rattle.jb_step.specs.Tables.{ArePlaced, Table, held_in, held_at}

-- each task is ready, for chunks of the step's item count
abbrev pub AreTasksOf : Setup → List TaskState → Type 0
AreTasksOf s ts = AllByRecursion (λ t. IsReady t × (t.item_count ≡ s.item_count)) ts

-- a table of the step: in its own place the task of each partition that was unfinished at first, and no other
pub record IsTaskTable (s : Setup) (table : Table) : Type 0 where
  pub tasks : AreTasksOf s (held_in table)
  pub placed : ArePlaced 0 table
  pub unfinished : Pairwise (λ row place. is_some place ≡ not (is_finished row.state)) s.rows table

-- a table that the step holds: what some of its plans, or none of them, left of its first one
pub record IsHeld (s : Setup) (table : Table) : Type 0 where
  pub start : Table
  pub plans : List PlanRun
  pub first : IsTaskTable s start
  pub run : ArePlanRuns s start plans
  pub left : table ≡ table_after plans start

-- the tasks that a step begins with: one for each unfinished partition, in their order, each ready
pub record AreFirstTasks (s : Setup) (ts : List TaskState) : Type 0 where
  pub tasks : AreTasksOf s ts
  pub partitions : map (λ t. t.partition) ts ≡ needs s.rows

-- it begins with these, in a table of the step, if the artifacts fit
abbrev pub BeginsWithTasks : Type 0
BeginsWithTasks =
    (s : Setup) (artifacts : List ArtifactsMeaning) → IsSetup s → DoFit s artifacts → AreFirstTasks s (first_tasks s artifacts)

abbrev pub BeginsWithTable : Type 0
BeginsWithTable =
    (s : Setup) (artifacts : List ArtifactsMeaning) → IsSetup s → DoFit s artifacts
    → IsTaskTable s (first_table s artifacts) × (held_in (first_table s artifacts) ≡ first_tasks s artifacts)

-- the rows are then the prepared ones
abbrev pub BeginsWithRows : Type 0
BeginsWithRows = (s : Setup) (artifacts : List ArtifactsMeaning) → DoFit s artifacts → rows_now s.rows (first_tasks s artifacts) ≡ s.rows

-- and each round leaves the partitions as they are
abbrev pub PartitionsStay : Type 0
PartitionsStay = (set : List Pair) (table : Table) → map (option_map (λ t. t.partition)) (after_round set table) ≡ map (option_map (λ t. t.partition)) table

-- Some rounds were run of a lawful plan for a table that the step holds. None of them had a rollback or a failure. The other rounds are left.
pub record IsQuietSoFar (s : Setup) (before : Table) (rounds left : List (List Pair)) : Type 0 where
  pub held : IsHeld s before
  pub lawful : IsLawful (counts_now s before) s.threads (rounds ++ left)
  pub run : AreRun rounds before
  pub quiet : GoQuietly rounds before

-- then its next round can be run: each of its partitions has a task that waits
abbrev pub NextCanRun : Type 0
NextCanRun =
    (s : Setup) (before : Table) (rounds : List (List Pair)) (set : List Pair) (left : List (List Pair))
    → IsQuietSoFar s before rounds (set ∷ left) → CanRun set (after_rounds rounds before)

-- Each partition's chunks are run in their order: when a round has chunk j of a partition, just j of the chunks that the
-- plan was made for are committed
abbrev pub RunsInOrder : Type 0
RunsInOrder =
    (s : Setup) (before : Table) (rounds : List (List Pair)) (set : List Pair) (left : List (List Pair))
    → IsQuietSoFar s before rounds (set ∷ left) → (p j : ℕ) → Contains set (p, j)
    → slice_index (counts_now s (after_rounds rounds before)) p + j ≡ slice_index (counts_now s before) p

-- that is, chunk j of the plan is chunk j of those that were left of the partition's records
abbrev pub ChunksAreBlocks : Type 0
ChunksAreBlocks =
    (s : Setup) (before : Table) (rounds : List (List Pair)) (set : List Pair) (left : List (List Pair))
    → IsQuietSoFar s before rounds (set ∷ left) → (p j : ℕ) → Contains set (p, j)
    → (t u : TaskState) → held_at before p ≡ Some t → held_at (after_rounds rounds before) p ≡ Some u
    → slice_get (blocks t.row.at t.row.redo t.row.hi t.item_count) j ≡ Some (block_of u)

-- and all of them are run: a plan that is run whole and quietly leaves no chunk
abbrev pub RunsAll : Type 0
RunsAll =
    (s : Setup) (before : Table) (rounds : List (List Pair)) → IsQuietSoFar s before rounds []
    → (p : ℕ) → p < length s.rows → slice_index (counts_now s (after_rounds rounds before)) p ≡ 0

-- a least plan whose rounds had no rollback or failure is run whole before no partition waits any more
abbrev pub EndsWhole : Type 0
EndsWhole =
    (s : Setup) (before : Table) (rounds left : List (List Pair))
    → IsQuietSoFar s before rounds left → NoneIsShorter (counts_now s before) s.threads (length (rounds ++ left))
    → have_ended (held_in (after_rounds rounds before)) ≡ true → left ≡ []
