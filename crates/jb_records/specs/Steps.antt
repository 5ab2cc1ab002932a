-- The partitions, over a whole run of their step.
use Rattle.std.specs.Prelude.{ℕ, ◌≡◌, List, slice_get, Some}
use Rattle.jb_base.specs.Pairwise.{Pairwise}
use Rattle.jb_artifacts.specs.Meaning.{ArtifactsMeaning}
use Rattle.jb_base.specs.declared.range.Range.{Range}
use Rattle.jb_base.specs.Rules.{RulesRecord}
use Rattle.jb_rules.specs.declared.row.Row.{Row}
use Rattle.jb_chunk.specs.TaskState.{TaskState}
use Rattle.jb_step.specs.Answers.{artifacts_of}
use Rattle.jb_step.specs.preparing.Prepare.{DoFit}
use Rattle.jb_step.specs.preparing.Setup.{IsSetup, Setup, first_tasks, fresh_rows, rows_now, unfinished}
use Rattle.jb_step.specs.Alone.{AreOnTheWay}
use Rattle.jb_records.specs.Function.{Function}
use Rattle.jb_records.specs.PartitionResults.{AreRangesOf, IsSoFar, newer_partition_results}
use Rattle.jb_records.specs.Artifacts.{IsFirstArtifactsOver, IsArtifactsOver, own_records}

-- ---- how the partitions begin

-- the unfinished partition works with its own records, and its writer holds its share
abbrev pub IsArtifactsFor : Function → RulesRecord → (records : List (List ℕ)) → (partition_results : List (List (List ℕ))) → ℕ × Row → ArtifactsMeaning → Type 0
IsArtifactsFor f rules records partition_results n w = IsArtifactsOver f rules n.1.lo (own_records records n.1) w × (slice_get partition_results n.0 ≡ Some w.writer.written)

abbrev pub AreArtifacts : Function → RulesRecord → (records : List (List ℕ)) → (partition_results : List (List (List ℕ))) → List (ℕ × Row) → List ArtifactsMeaning → Type 0
AreArtifacts f rules records partition_results ns ws = Pairwise (IsArtifactsFor f rules records partition_results) ns ws

-- and it begins with the first tries that the function has for its records
abbrev pub IsFirstArtifactsFor : Function → RulesRecord → (records : List (List ℕ)) → (partition_results : List (List (List ℕ))) → ℕ × Row → ArtifactsMeaning → Type 0
IsFirstArtifactsFor f rules records partition_results n w = IsFirstArtifactsOver f rules n.1.lo (own_records records n.1) w × (slice_get partition_results n.0 ≡ Some w.writer.written)

abbrev pub AreFirstArtifacts : Function → RulesRecord → (records : List (List ℕ)) → (partition_results : List (List (List ℕ))) → List (ℕ × Row) → List ArtifactsMeaning → Type 0
AreFirstArtifacts f rules records partition_results ns ws = Pairwise (IsFirstArtifactsFor f rules records partition_results) ns ws

-- the same of partitions that are named by their numbers
abbrev pub AreArtifactsOf : Function → RulesRecord → (records : List (List ℕ)) → (partition_results : List (List (List ℕ))) → List Row → (partitions : List ℕ) → List ArtifactsMeaning → Type 0
AreArtifactsOf f rules records partition_results rows ps ws =
    Pairwise (λ (p : ℕ) (w : ArtifactsMeaning). ((row : Row) → slice_get rows p ≡ Some row → IsFirstArtifactsOver f rules row.lo (own_records records row) w)
    × (slice_get partition_results p ≡ Some w.writer.written)) ps ws

-- the step begins from the start, with ranges that are those of so many records in their order
pub record StartsFresh (records : ℕ) (s : Setup) : Type 0 where
  pub ranges : List Range
  pub order : AreRangesOf 0 records ranges
  pub rows : s.rows ≡ fresh_rows ranges

-- THE LAW: at each state in which a run of the step left its partitions, they are as far as its rows say, if they were so when it began
abbrev pub StepsKeepResults : Type 0
StepsKeepResults =
    (f : Function) (records : List (List ℕ)) (partition_results : List (List (List ℕ))) (s : Setup) (artifacts : List ArtifactsMeaning) (ends : List TaskState)
    → IsSetup s → DoFit s artifacts → AreArtifacts f s.rules records partition_results (unfinished s.rows) artifacts → AreOnTheWay (first_tasks s artifacts) ends
    → IsSoFar f records s.rows partition_results → IsSoFar f records (rows_now s.rows ends) (newer_partition_results (artifacts_of ends) partition_results)
