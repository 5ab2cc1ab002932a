-- Why a call of a step over records has no answer.
use Rattle.std.specs.Prelude.{ℕ, ◌≡◌, ◌+◌, ◌<◌, ◌≤◌, ◌⊎◌, false, List, [], length, Option, None, Some, Ok, Err, slice_get, ⊤}
use Rattle.std.specs.List.{sum_by}
use Rattle.jb_base.specs.Limits.{max_records}
use Rattle.jb_base.specs.Rules.{RulesRecord}
use Rattle.jb_job.specs.Reading.{tree_of}
use Rattle.jb_job.specs.Records.{StepRecord}
use Rattle.jb_plan.specs.declared.fault.PlanError.{PlanError}
use Rattle.jb_plan.specs.declared.plan.PartitionPlan.{PartitionPlan}
use Rattle.jb_plan.specs.Faults.{IsFirst, plan_errors}
use Rattle.jb_rules.specs.declared.row.Row.{Row}
use Rattle.jb_saved.specs.declared.place.SavedPlace.{SavedPlace}
use Rattle.jb_saved.specs.GoingOn.{step_faults}
use Rattle.jb_saved.specs.Reading.{answer_of}
use Rattle.jb_saved.specs.SavedRows.{SavedRows}
use Rattle.jb_step.specs.declared.error.StepError.TheVariants as error
use Rattle.jb_step.specs.preparing.Setup.{saved_faults}
use Rattle.jb_records.specs.declared.error.RecordsStepError.{RecordsStepError}
use Rattle.jb_records.specs.declared.error.RecordsStepError.TheVariants.{Memory, Records, Results, SkippedTry, Step}
use Rattle.jb_records.specs.declared.step.RecordsStep.{RecordsStep}
use Rattle.jb_records.specs.Artifacts.{AreNeverSkipped, record_of}
use Rattle.jb_records.specs.Function.{Function, tries_of}
use Rattle.jb_records.specs.Made.{even_partitions, step_record}
use Rattle.jb_records.specs.PartitionResults.{AreNumbered}

-- ---- THE RESULTS OF AN EARLIER RUN

-- not looked at yet; joined in the order of the partitions; or those of each partition
pub data EarlierResults : Type 0 where
  Unseen : EarlierResults
  Joined : (results : List (List ℕ)) → EarlierResults
  OfEach : (partition_results : List (List (List ℕ))) → EarlierResults

-- how many results the rows say were written
abbrev pub written_in : List Row → ℕ
written_in rows = sum_by (λ row. row.written) rows

-- they aren't as many as these rows say: in all, or of some partition
abbrev pub AreOthers : List Row → EarlierResults → Type 0
AreOthers rows Unseen = ⊥
AreOthers rows (Joined results) = length results ≡ written_in rows → ⊥
AreOthers rows (OfEach partition_results) = AreNumbered rows partition_results → ⊥

-- nor as the rows of this text say
pub record AreOtherResults (text : List ℕ) (results : EarlierResults) : Type 0 where
  pub held : SavedRows
  pub read : answer_of (tree_of text) ≡ Ok held
  pub others : AreOthers held.rows results

-- ---- THE PHASES OF A CALL, with what each is given

pub data Phase : Type 1 where
  -- the step is prepared by this plan of its partitions, and by the saved rows and the results of an earlier run
  Prepare : StepRecord → (records : ℕ) → PartitionPlan → Option SavedRows → EarlierResults → Phase
  -- what its partitions work with is made, for records of which the first has the number `first`
  Make : Function → RulesRecord → (first : ℕ) → (records : List (List ℕ)) → Phase
  -- it is run, with artifacts of which this says that they fit it
  Run : (Fit : Type 0) → Phase
  -- an interval of a run that fits its records
  RunInterval : Phase
  -- the whole call: from the start, or from the text and the results of an earlier run
  Call : Function → RecordsStep → (records : List (List ℕ)) → Option (List ℕ × EarlierResults) → Phase

-- the step is prepared by its own plan: even partitions of all records
abbrev pub prepare_evenly : RecordsStep → (records : ℕ) → Option SavedRows → EarlierResults → Phase
prepare_evenly step records saved results = Prepare (step_record step) records (even_partitions step records) saved results

-- ---- WHAT IS WRONG, by phase

-- there are too many records
abbrev pub AreTooMany : Phase → Type 0
AreTooMany (Prepare step records plan saved results) = max_records < records
AreTooMany (Call f step records earlier) = max_records < length records
AreTooMany _ = ⊥

-- the earlier results are others
abbrev pub rows_in : Option SavedRows → List Row
rows_in None = []
rows_in (Some held) = held.rows

abbrev pub HasOtherResults : Phase → Type 0
HasOtherResults (Prepare step records plan saved results) = AreOthers (rows_in saved) results
HasOtherResults (Call f step records (Some earlier)) = AreOtherResults earlier.0 earlier.1
HasOtherResults _ = ⊥

-- some first try at one of these records, the first of which has the number `first`, would fail with a class that may be skipped
pub record HasSkippedTry (f : Function) (rules : RulesRecord) (first : ℕ) (records : List (List ℕ)) : Type 0 where
  pub number : ℕ
  pub from : first ≤ number
  pub to : number < first + length records
  pub skipped : AreNeverSkipped rules (tries_of f (record_of first records number)) → ⊥

abbrev pub IsTrySkipped : Phase → Type 0
IsTrySkipped (Make f rules first records) = HasSkippedTry f rules first records
IsTrySkipped (Call f step records earlier) = HasSkippedTry f step.rules 0 records
IsTrySkipped _ = ⊥

-- the plan's first fault is this
abbrev pub IsPlanFault : Phase → PlanError → Type 0
IsPlanFault (Prepare step records plan saved results) fault = IsFirst fault (plan_errors records plan)
IsPlanFault (Call f step records earlier) fault = IsFirst fault (plan_errors (length records) (even_partitions step (length records)))
IsPlanFault _ fault = ⊥

-- the first fault of the saved rows is this, or that of their text
pub record AreRowsRefused (step : List ℕ) (records : ℕ) (text : List ℕ) (place : SavedPlace) : Type 0 where
  pub held : SavedRows
  pub read : answer_of (tree_of text) ≡ Ok held
  pub first : slice_get (step_faults step records held) 0 ≡ Some place

abbrev pub IsSavedFault : Phase → SavedPlace → Type 0
IsSavedFault (Prepare step records plan saved results) place = slice_get (saved_faults step records false saved) 0 ≡ Some place
IsSavedFault (Call f step records (Some earlier)) place = (answer_of (tree_of earlier.0) ≡ Err place) ⊎ AreRowsRefused step.id (length records) earlier.0 place
IsSavedFault _ place = ⊥

-- the artifacts don't fit the step
abbrev pub DontFit : Phase → Type 0
DontFit (Run Fit) = Fit → ⊥
DontFit _ = ⊥

-- it has a desk and workers
abbrev pub HasDesk : Phase → Type 0
HasDesk (Prepare step records plan saved results) = ⊥
HasDesk (Make f rules first records) = ⊥
HasDesk _ = ⊤

-- it calls the step, which may be out of memory
abbrev pub CallsStep : Phase → Type 0
CallsStep (Make f rules first records) = ⊥
CallsStep _ = ⊤

-- ---- THE CAUSE OF EACH ERROR

-- `Repository`: the desk wasn't its own. `Workers`: a worker could not be started.
abbrev pub Explains : Phase → RecordsStepError → Type 0
Explains phase Records = AreTooMany phase
Explains phase Results = HasOtherResults phase
Explains phase SkippedTry = IsTrySkipped phase
Explains phase (Step (error.Plan fault)) = IsPlanFault phase fault
Explains phase (Step (error.Saved place)) = IsSavedFault phase place
Explains phase (Step error.WrongArtifacts) = DontFit phase
Explains phase (Step (error.Repository partition)) = HasDesk phase
Explains phase (Step error.Workers) = HasDesk phase
Explains phase (Step error.Memory) = CallsStep phase
Explains phase (Step _) = ⊥
Explains phase Memory = ⊤
