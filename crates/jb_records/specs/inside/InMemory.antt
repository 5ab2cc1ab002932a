-- What stays in memory of a run.
use Rattle.std.specs.Prelude.{ℕ, ◌≡◌, ◌+◌, ◌∷◌, [], nat_eq, Bool, true, false, not, if◌then◌else◌, List, Option, None, Some, filter, length, drop, map, slice_get}
use Rattle.jb_base.specs.Rules.{RulesRecord}
use Rattle.jb_collect.specs.declared.calls.Status.{Status}
use Rattle.jb_repo.specs.declared.snapshot.Snapshot.{Snapshot}
use Rattle.jb_saved.specs.Answers.{first_running}
use Rattle.jb_saved.specs.GoingOn.{ends_past, rows_restarted}
use Rattle.jb_step.specs.Statuses.{status_of}
use Rattle.jb_step.specs.preparing.Prepare.{DoFit}
use Rattle.jb_records.specs.PartitionResults.{newer_partition_results}
use Rattle.jb_artifacts.specs.Meaning.{ArtifactsMeaning}
use Rattle.jb_rules.specs.declared.row.Row.{Row}
use Rattle.jb_rules.specs.States.{is_finished}
use Rattle.jb_step.specs.preparing.Setup.{IsSetup, Setup, needs, unfinished}
use Rattle.jb_records.specs.Function.{Function}
use Rattle.jb_records.specs.Made.{HasRunOver}
use Rattle.jb_records.specs.StepRuns.{IsStepRunOf}
use Rattle.jb_records.specs.Steps.{AreFirstArtifacts}
use Rattle.jb_records.specs.Intervals.{HasGoneOn, RunState, StandsOver, numbers_in, artifacts_in}

-- the run is as it was prepared, with these shares
pub record IsAsPrepared (f : Function) (records : List (List ℕ)) (step : List ℕ) (setup : Setup) (partition_results : List (List (List ℕ))) (s : RunState) : Type 0 where
  pub step_is : s.step ≡ step
  pub number : s.records ≡ length records
  pub setup_is : s.setup ≡ setup
  pub partition_results_are : s.partition_results ≡ partition_results
  pub partitions : numbers_in s.artifacts ≡ needs setup.rows
  pub artifacts : AreFirstArtifacts f setup.rules records partition_results (unfinished setup.rows) (artifacts_in s.artifacts)

-- the run that was prepared so ended after one interval: with this status, these rows, and these results of its partitions
pub record HasEnded (f : Function) (records : List (List ℕ)) (rounds : Option ℕ) (s : Setup) (partition_results : List (List (List ℕ))) (now : Status) (snapshot : Snapshot) (results : List (List (List ℕ))) : Type 0 where
  pub run : HasRunOver f records rounds s partition_results snapshot results
  pub status_is : now ≡ status_of snapshot.rows.items false

-- the run resumes from these rows, with these works and results
pub record IsGoingOn (step : List ℕ) (count : ℕ) (rules : RulesRecord) (rows : List Row) (artifacts : List (ℕ × ArtifactsMeaning)) (results : List (List (List ℕ))) (s : RunState) : Type 0 where
  pub step_is : s.step ≡ step
  pub number : s.records ≡ count
  pub setup : IsSetup s.setup
  pub rows_are : s.setup.rows ≡ rows_restarted (record { step = step; rows = rows })
  pub rules_are : s.setup.rules ≡ rules
  pub artifacts_are : s.artifacts ≡ artifacts
  pub partition_results_are : s.partition_results ≡ newer_partition_results artifacts results

-- there is no such partition, or its row is finished
abbrev pub is_over : Option Row → Bool
is_over None = true
is_over (Some row) = is_finished row.state

abbrev pub is_done : List Row → ℕ × ArtifactsMeaning → Bool
is_done rows a = is_over (slice_get rows a.0)

abbrev pub is_left : List Row → ℕ × ArtifactsMeaning → Bool
is_left rows a = not (is_done rows a)

-- the new results of each partition from number `k` on: those that its writer, if it came back, holds after the ones already reported
abbrev pub new_results_from : (k : ℕ) → (written_before : List ℕ) → List (ℕ × ArtifactsMeaning) → List (List (List ℕ))
new_results_from k [] left = []
new_results_from k (count ∷ written_before) [] = [] ∷ new_results_from (k + 1) written_before []
new_results_from k (count ∷ written_before) (a ∷ left) =
    if nat_eq a.0 k then drop count a.1.writer.written ∷ new_results_from (k + 1) written_before left else [] ∷ new_results_from (k + 1) written_before (a ∷ left)

-- ---- THE LAWS

-- if a run fits its records (`StandsOver`), what it works with fits it
abbrev pub ArtifactsFit : Type 0
ArtifactsFit = (f : Function) (records : List (List ℕ)) (s : RunState) → StandsOver f records s → DoFit s.setup (artifacts_in s.artifacts)

-- the rows that its interval leaves can be saved, and its step resumes from them
abbrev pub RowsAreSaved : Type 0
RowsAreSaved =
    (f : Function) (records : List (List ℕ)) (s : RunState) (rounds : Option ℕ) (snapshot : Snapshot) (left : List (ℕ × ArtifactsMeaning))
    → StandsOver f records s → IsStepRunOf s.setup (artifacts_in s.artifacts) rounds snapshot left
    → (first_running snapshot.rows.items ≡ None) × (ends_past s.records snapshot.rows.items ≡ false)

-- If it resumes from them, with what came back of the unfinished partitions, and with the results of the finished ones added to the others,
-- the interval was run (`HasGoneOn`).
abbrev pub IntervalsGoOn : Type 0
IntervalsGoOn =
    (f : Function) (records : List (List ℕ)) (before after : RunState) (results : List (List (List ℕ))) (rounds : Option ℕ) (snapshot : Snapshot) (left : List (ℕ × ArtifactsMeaning))
    → StandsOver f records before → before.partition_results ≡ newer_partition_results before.artifacts results → IsStepRunOf before.setup (artifacts_in before.artifacts) rounds snapshot left
    → IsGoingOn before.step before.records before.setup.rules snapshot.rows.items (filter (is_left snapshot.rows.items) left) (newer_partition_results (filter (is_done snapshot.rows.items) left) results) after
    → HasGoneOn f records before after snapshot.rows.items (new_results_from 0 (map (λ row. row.written) before.setup.rows) left)
