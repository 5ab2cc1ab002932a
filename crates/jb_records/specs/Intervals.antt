-- A step over records that stays in memory between its intervals.
use Rattle.std.specs.Prelude.{ℕ, ◌≡◌, ◌≤◌, ◌++◌, List, [], length, map, Option, Ok}
use Rattle.std.specs.List.{zip}
use Rattle.jb_artifacts.specs.Meaning.{ArtifactsMeaning}
use Rattle.jb_base.specs.Pairwise.{Pairwise}
use Rattle.jb_job.specs.Reading.{tree_of}
use Rattle.jb_repo.specs.declared.snapshot.Snapshot.{Snapshot}
use Rattle.jb_rules.specs.declared.row.Row.{Row}
use Rattle.jb_saved.specs.GoingOn.{rows_restarted}
use Rattle.jb_saved.specs.Reading.{answer_of}
use Rattle.jb_saved.specs.SavedRows.{SavedRows}
use Rattle.jb_step.specs.preparing.Setup.{IsSetup, Setup, needs, unfinished}
use Rattle.jb_records.specs.declared.step.RecordsStep.{RecordsStep}
use Rattle.jb_records.specs.Following.{FollowRules, ranges_of}
use Rattle.jb_records.specs.Function.{Function, IsSteady}
use Rattle.jb_records.specs.PartitionResults.{AreNumbered, AreAtTheirEnds, IsSoFar, joined}
use Rattle.jb_records.specs.StepRuns.{IsStepRunOf}
use Rattle.jb_records.specs.Steps.{AreArtifacts}

-- ---- THE STATE OF A RUN

-- The step's name and the number of records. What the next interval begins with. What the unfinished partitions work with, each with its
-- number. The results of each partition.
pub record RunState : Type 0 where
  pub step : List ℕ
  pub records : ℕ
  pub setup : Setup
  pub artifacts : List (ℕ × ArtifactsMeaning)
  pub partition_results : List (List (List ℕ))

-- the numbers of the partitions, and what they work with
abbrev pub numbers_in : List (ℕ × ArtifactsMeaning) → List ℕ
numbers_in artifacts = map (λ a. a.0) artifacts

abbrev pub artifacts_in : List (ℕ × ArtifactsMeaning) → List ArtifactsMeaning
artifacts_in artifacts = map (λ a. a.1) artifacts

-- THE RUN FITS THESE RECORDS: it is as far as its rows say. Each unfinished partition works with its own records, and its writer holds its
-- share. If no try of the function fails, the rows follow the rules.
pub record StandsOver (f : Function) (records : List (List ℕ)) (s : RunState) : Type 0 where
  pub number : s.records ≡ length records
  pub setup : IsSetup s.setup
  pub so_far : IsSoFar f records s.setup.rows s.partition_results
  pub partitions : numbers_in s.artifacts ≡ needs s.setup.rows
  pub artifacts : AreArtifacts f s.setup.rules records s.partition_results (unfinished s.setup.rows) (artifacts_in s.artifacts)
  pub follows : IsSteady f → FollowRules f s.setup.rules records s.setup.rows

-- ---- HOW IT BEGINS

-- by the step's rules, in chunks of its item count
pub record GoesBy (step : RecordsStep) (s : RunState) : Type 0 where
  pub rules_are : s.setup.rules ≡ step.rules
  pub item_count_is : s.setup.item_count ≡ step.item_count

-- from the start: with no result
pub record BeginsEmpty (step : List ℕ) (s : RunState) : Type 0 where
  pub step_is : s.step ≡ step
  pub empty : joined s.partition_results ≡ []
  pub numbered : AreNumbered s.setup.rows s.partition_results

-- resuming from the rows of a text, of which the failed ones wait again, and from these results of its partitions
pub record ResumesFrom (step text : List ℕ) (partition_results : List (List (List ℕ))) (s : RunState) : Type 0 where
  pub held : SavedRows
  pub read : answer_of (tree_of text) ≡ Ok held
  pub step_is : s.step ≡ step
  pub rows : s.setup.rows ≡ rows_restarted held
  pub partition_results_are : s.partition_results ≡ partition_results
  pub numbered : AreNumbered held.rows partition_results
  pub whole : AreAtTheirEnds s.setup.rows → AreAtTheirEnds held.rows

-- ---- WHAT AN INTERVAL DOES

-- each share with its new results added at the end
abbrev pub grown : (partition_results new_results : List (List (List ℕ))) → List (List (List ℕ))
grown partition_results new_results = map (λ n. n.0 ++ n.1) (zip partition_results new_results)

-- each partition is where it was, or further on
abbrev pub AreFurther : (before now : List Row) → Type 0
AreFurther before now = Pairwise (λ (b n : Row). b.at ≤ n.at) before now

-- THE INTERVAL WAS RUN: these rows and the shares now are so far. The shares now are those before, each with its new results added at the
-- end. The partitions keep their ranges, and none goes back. If no try of the function fails, the rows follow the rules. The run fits the
-- records again.
pub record HasGoneOn (f : Function) (records : List (List ℕ)) (before after : RunState) (rows : List Row) (new_results : List (List (List ℕ))) : Type 0 where
  pub so_far : IsSoFar f records rows after.partition_results
  pub partition_results_are : after.partition_results ≡ grown before.partition_results new_results
  pub number : length new_results ≡ length rows
  pub same : length rows ≡ length before.setup.rows
  pub ranges : ranges_of rows ≡ ranges_of before.setup.rows
  pub further : AreFurther before.setup.rows rows
  pub follows : IsSteady f → FollowRules f before.setup.rules records rows
  pub stands : StandsOver f records after

-- What was run: the step of this setup, over these artifacts. The next interval resumes from the rows that it left, of which the failed ones
-- wait again, by the same rules.
pub record IsIntervalRun (rounds : Option ℕ) (before : RunState) (snapshot : Snapshot) (after : RunState) : Type 0 where
  pub left : List (ℕ × ArtifactsMeaning)
  pub run : IsStepRunOf before.setup (artifacts_in before.artifacts) rounds snapshot left
  pub rows : after.setup.rows ≡ rows_restarted (record { step = before.step; rows = snapshot.rows.items })
  pub step_is : after.step ≡ before.step
  pub rules_are : after.setup.rules ≡ before.setup.rules
  pub item_count_is : after.setup.item_count ≡ before.setup.item_count
