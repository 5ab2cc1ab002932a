-- What `prepare` answers, and what it refuses.
use Rattle.std.specs.Prelude.{◌≡◌, ◌⊎◌, ℕ, Bool, true, false, Result, Ok, Err, List, [], ◌∷◌, Option, Some, is_none, map, slice_get}
use Rattle.jb_base.specs.Pairwise.{Pairwise}
use Rattle.jb_base.specs.declared.class.ClassId.{ClassId}
use Rattle.jb_job.specs.Records.{StepRecord}
use Rattle.jb_plan.specs.declared.plan.PartitionPlan.{PartitionPlan}
use Rattle.jb_plan.specs.Plans.{IsRunnable, threads_of}
use Rattle.jb_plan.specs.Faults.{IsFirst, plan_errors}
use Rattle.jb_rules.specs.declared.row.Row.{Row}
use Rattle.jb_artifacts.specs.Meaning.{ArtifactsMeaning, Fits}
use Rattle.jb_collect.specs.declared.calls.ReducerCall.{ReducerCall}
use Rattle.jb_collect.specs.declared.calls.ReducerCall.TheVariants.{Begin, Rollback, After}
use Rattle.jb_collect.specs.declared.calls.PartitionStatus.TheVariants as status
use Rattle.jb_collect.specs.ReducerCalls.{calls_before, rolled_back}
use Rattle.jb_collect.specs.AnsweredCalls.{AnsweredCall, calls_of, faulted, well}
use Rattle.jb_saved.specs.SavedRows.{SavedRows}
use Rattle.jb_step.specs.declared.error.StepError.{StepError}
use Rattle.jb_step.specs.declared.error.StepError.TheVariants.{Plan, Mapper, Reducer, Saved, Memory}
use Rattle.jb_step.specs.callbacks.Callbacks.{AreSome}
use Rattle.jb_step.specs.preparing.Setup.{Setup, overrides, fresh_rows, gone_on, opening_rows, saved_faults, unfinished}

-- The mapper's plan can be run, and nothing is wrong with the saved rows. The partitions begin from the start on the plan's ranges. But if
-- there are saved rows that the plan doesn't discard, they resume from these, and only the plan's thread number counts.
pub record IsPreparation (step : StepRecord) (records : ℕ) (mapped : Result PartitionPlan ClassId) (saved : Option SavedRows) (s : Setup) : Type 0 where
  pub plan : PartitionPlan
  pub mapping : mapped ≡ Ok plan
  pub runnable : IsRunnable records plan
  pub accepted : saved_faults step records plan.replace saved ≡ []
  pub rows : s.rows ≡ opening_rows plan.ranges (gone_on plan.replace saved)
  pub rules : s.rules ≡ step.rules
  pub item_count : s.item_count ≡ step.item_count
  pub threads : s.threads ≡ threads_of plan
  pub is_fresh : s.is_fresh ≡ is_none (gone_on plan.replace saved)

-- whether the mapper's plan overrides what an earlier run left
abbrev pub overrides_by : Result PartitionPlan ClassId → Option SavedRows → Bool
overrides_by (Ok plan) saved = overrides plan.replace saved
overrides_by (Err class) saved = false

-- If it does, every partition begins from the start on the plan's ranges, and the reducer took `begin` and then `rollback`, both answered
-- well. (No partition has run yet: a step's desk has no event when its rounds begin.)
abbrev pub IsOverridden : Result PartitionPlan ClassId → Option SavedRows → List (AnsweredCall ReducerCall) → Setup → Type 0
IsOverridden mapped saved taken s =
    (plan : PartitionPlan) → mapped ≡ Ok plan → overrides plan.replace saved ≡ true
    → (s.rows ≡ fresh_rows plan.ranges) × (s.is_fresh ≡ true) × (taken ≡ well Begin ∷ well Rollback ∷ [])

-- the mapper's plan can be run, and overrides saved rows that are the step's
pub record CanOverride (step : StepRecord) (records : ℕ) (mapped : Result PartitionPlan ClassId) (saved : Option SavedRows) : Type 0 where
  pub plan : PartitionPlan
  pub mapping : mapped ≡ Ok plan
  pub runnable : IsRunnable records plan
  pub accepted : saved_faults step records plan.replace saved ≡ []
  pub discarded : overrides plan.replace saved ≡ true

-- The rollback of what is discarded was answered with this fault. `after` follows it, and may be answered in any way. No second rollback follows.
pub record IsFaultedRollback (class : ClassId) (taken : List (AnsweredCall ReducerCall)) : Type 0 where
  pub fault : Option ClassId
  pub calls : taken ≡ well Begin ∷ faulted Rollback class ∷ record { call = After status.Rollback; fault = fault } ∷ []

-- The first refusal in this order: `begin`, the mapper, its plan, the saved rows, the rollback of what is discarded. If memory ran out,
-- nothing is claimed.
abbrev pub IsPrepareRefusal : StepRecord → ℕ → Result PartitionPlan ClassId → Option SavedRows → List (AnsweredCall ReducerCall) → StepError → Type 0
IsPrepareRefusal step records mapped saved taken (Reducer class) = (taken ≡ faulted Begin class ∷ []) ⊎ CanOverride step records mapped saved × IsFaultedRollback class taken
IsPrepareRefusal step records mapped saved taken (Mapper class) = mapped ≡ Err class
IsPrepareRefusal step records mapped saved taken (Plan fault) = (plan : PartitionPlan) × (mapped ≡ Ok plan) × IsFirst fault (plan_errors records plan)
IsPrepareRefusal step records mapped saved taken (Saved place) =
    (plan : PartitionPlan) × (mapped ≡ Ok plan) × IsRunnable records plan × (slice_get (saved_faults step records plan.replace saved) 0 ≡ Some place)
IsPrepareRefusal step records mapped saved taken Memory = Unit {0}
IsPrepareRefusal step records mapped saved taken _ = ⊥

-- `begin` was answered well, and then these calls were taken, answered in any way
pub record IsBegunThen (calls : List ReducerCall) (taken : List (AnsweredCall ReducerCall)) : Type 0 where
  pub next : List (AnsweredCall ReducerCall)
  pub begun : taken ≡ well Begin ∷ next
  pub calls_are : calls_of next ≡ calls

-- What the reducer took if `prepare` refused so. Either `begin` alone, answered with the fault. Or `begin`, answered well, and then one
-- rollback, whose first call was answered with the fault if it is the reducer's. If memory ran out, it took nothing, or `begin`, answered
-- well, and then some of a rollback's calls.
abbrev pub AreCallsAtRefusal : StepError → List (AnsweredCall ReducerCall) → Type 0
AreCallsAtRefusal (Reducer class) taken = (taken ≡ faulted Begin class ∷ []) ⊎ IsFaultedRollback class taken
AreCallsAtRefusal (Mapper class) taken = IsBegunThen rolled_back taken
AreCallsAtRefusal (Plan fault) taken = IsBegunThen rolled_back taken
AreCallsAtRefusal (Saved place) taken = IsBegunThen rolled_back taken
AreCallsAtRefusal Memory taken = (taken ≡ []) ⊎ (calls : List ReducerCall) × AreSome calls rolled_back × IsBegunThen calls taken
AreCallsAtRefusal _ taken = ⊥

-- what it took: if `prepare` didn't refuse, `begin`, and the rollback of what is discarded, all answered well
abbrev pub AreCallsBefore : {A : Type 0} → (overrides : Bool) → Result A StepError → List (AnsweredCall ReducerCall) → Type 0
AreCallsBefore overrides (Ok p) taken = taken ≡ map well (calls_before overrides)
AreCallsBefore overrides (Err e) taken = AreCallsAtRefusal e taken

-- as many artifacts as unfinished partitions, and each serves its partition's row, in this order
abbrev pub FitRows : List (ℕ × Row) → List ArtifactsMeaning → Type 0
FitRows = Pairwise (λ n artifacts. Fits artifacts n.1)

abbrev pub DoFit : Setup → List ArtifactsMeaning → Type 0
DoFit s artifacts = FitRows (unfinished s.rows) artifacts
