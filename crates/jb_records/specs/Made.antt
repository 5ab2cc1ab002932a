-- The run that is made of a step over records.
use Rattle.std.specs.Prelude.{ℕ, ◌≡◌, false, List, [], length, Option, None, Some, Ok}
use Rattle.jb_artifacts.specs.Meaning.{ArtifactsMeaning}
use Rattle.jb_job.specs.Reading.{tree_of}
use Rattle.jb_job.specs.Records.{StepRecord}
use Rattle.jb_mapper.specs.EvenCover.{even_ranges}
use Rattle.jb_plan.specs.declared.plan.PartitionPlan.{PartitionPlan}
use Rattle.jb_repo.specs.declared.snapshot.Snapshot.{Snapshot}
use Rattle.jb_saved.specs.Reading.{answer_of}
use Rattle.jb_saved.specs.SavedRows.{SavedRows}
use Rattle.jb_step.specs.preparing.Prepare.{IsPreparation}
use Rattle.jb_step.specs.preparing.Setup.{IsSetup, Setup, unfinished}
use Rattle.jb_records.specs.declared.step.RecordsStep.{RecordsStep}
use Rattle.jb_records.specs.Function.{Function}
use Rattle.jb_records.specs.PartitionResults.{AreNumbered, joined, newer_partition_results}
use Rattle.jb_records.specs.StepRuns.{IsStepRunOf}
use Rattle.jb_records.specs.Steps.{AreFirstArtifacts}

-- ---- HOW IT BEGINS

-- the step as it is prepared, and the plan of its partitions: even ranges of all records
abbrev pub step_record : RecordsStep → StepRecord
step_record step = record {
  id = step.id;
  item_count = step.item_count;
  rules = step.rules;
  spec = record { partitions = step.partitions; threads = step.threads; replace = false; ranges = None };
}

abbrev pub even_partitions : RecordsStep → (records : ℕ) → PartitionPlan
even_partitions step records = record { ranges = even_ranges records step.partitions; threads = step.threads; replace = false }

-- The step was prepared with its item count, its rules and its threads. Its rows are those of its ranges, or the saved ones, of which the
-- failed ones wait again. Each partition has as many of the earlier results as its row says, joined in the order of the partitions.
pub record IsStepBegun (step : RecordsStep) (records : ℕ) (saved : Option SavedRows) (earlier : List (List ℕ)) (s : Setup) (partition_results : List (List (List ℕ))) : Type 0 where
  pub prepared : IsPreparation (step_record step) records (Ok (even_partitions step records)) saved s
  pub setup : IsSetup s
  pub numbered : AreNumbered s.rows partition_results
  pub results : joined partition_results ≡ earlier

-- what it takes over: the rows that an earlier run's text holds, and that run's results; or nothing
abbrev pub TakesOver : Option (List ℕ × List (List ℕ)) → Option SavedRows → (results : List (List ℕ)) → Type 0
TakesOver None saved results = (saved ≡ None) × (results ≡ [])
TakesOver (Some e) saved results = (held : SavedRows) × (answer_of (tree_of e.0) ≡ Ok held) × (saved ≡ Some held) × (results ≡ e.1)

pub record IsBegunBehind (step : RecordsStep) (records : ℕ) (earlier : Option (List ℕ × List (List ℕ))) (s : Setup) (partition_results : List (List (List ℕ))) : Type 0 where
  pub saved : Option SavedRows
  pub results : List (List ℕ)
  pub takes_over : TakesOver earlier saved results
  pub begun : IsStepBegun step records saved results s partition_results

-- ---- WHAT WAS RUN

-- The step that was prepared so has run over the records, in so many rounds at most. Each unfinished partition began with its own records,
-- its share, and the first tries that the function has for its records. These are the rows, and the results in the writers.
pub record HasRunOver (f : Function) (records : List (List ℕ)) (rounds : Option ℕ) (s : Setup) (partition_results : List (List (List ℕ))) (snapshot : Snapshot) (results : List (List (List ℕ))) : Type 0 where
  pub artifacts : List ArtifactsMeaning
  pub first : AreFirstArtifacts f s.rules records partition_results (unfinished s.rows) artifacts
  pub left : List (ℕ × ArtifactsMeaning)
  pub run : IsStepRunOf s artifacts rounds snapshot left
  pub results_are : results ≡ newer_partition_results left partition_results

-- THE RUN OF A STEP OVER RECORDS, from the start or resuming an earlier one
pub record IsRunOfRecords (f : Function) (step : RecordsStep) (records : List (List ℕ)) (earlier : Option (List ℕ × List (List ℕ))) (rounds : Option ℕ) (snapshot : Snapshot) (results : List (List (List ℕ))) : Type 0 where
  pub setup : Setup
  pub partition_results : List (List (List ℕ))
  pub begun : IsBegunBehind step (length records) earlier setup partition_results
  pub made : HasRunOver f records rounds setup partition_results snapshot results
