-- What a checked plan and saved rows give.
use Rattle.std.specs.Prelude.{◌≡◌, Bool, Result, Ok, Err, ℕ, List, [], ◌∷◌, ◌++◌, Option, Some, is_none, slice_get}
use Rattle.jb_base.specs.declared.class.ClassId.{ClassId}
use Rattle.jb_job.specs.Records.{StepRecord}
use Rattle.jb_plan.specs.Faults.{IsFirst, plan_errors}
use Rattle.jb_plan.specs.Plans.{CheckedPlan, IsRunnable}
use Rattle.jb_plan.specs.declared.plan.PartitionPlan.{PartitionPlan}
use Rattle.jb_rules.specs.declared.row.Row.{Row}
use Rattle.jb_collect.specs.declared.calls.ReducerCall.{ReducerCall}
use Rattle.jb_collect.specs.declared.calls.ReducerCall.TheVariants.{Rollback, After}
use Rattle.jb_collect.specs.declared.calls.PartitionStatus.TheVariants as status
use Rattle.jb_collect.specs.ReducerCalls.{rolled_back}
use Rattle.jb_collect.specs.AnsweredCalls.{AnsweredCall, calls_of, faulted, since}
use Rattle.jb_saved.specs.declared.place.SavedPlace.{SavedPlace}
use Rattle.jb_saved.specs.SavedRows.{SavedRows}
use Rattle.jb_step.specs.declared.error.StepError.{StepError}
use Rattle.jb_step.specs.declared.error.StepError.TheVariants.{Plan, Mapper, Reducer, Saved, Memory}
use Rattle.jb_step.specs.callbacks.Callbacks.{AreSome}
use Rattle.jb_step.specs.preparing.Setup.{Setup, gone_on, opening_rows, saved_faults}

-- the step with these rows, on the plan's threads
abbrev pub setup_of_rows : List Row → CheckedPlan → StepRecord → (is_fresh : Bool) → Setup
setup_of_rows rows plan step is_fresh = record {
  rows = rows;
  rules = step.rules;
  item_count = step.item_count;
  threads = plan.threads;
  is_fresh = is_fresh;
}

abbrev pub opened_setup : CheckedPlan → StepRecord → Option SavedRows → Setup
opened_setup plan step saved =
    let from = gone_on plan.replace saved in setup_of_rows (opening_rows plan.ranges from) plan step (is_none from)

-- the first fault of the saved rows for this step; memory runs out only if they have no fault
abbrev pub RefusesToGoOn : StepError → List SavedPlace → Type 0
RefusesToGoOn (Saved place) faults = slice_get faults 0 ≡ Some place
RefusesToGoOn Memory faults = faults ≡ []
RefusesToGoOn _ faults = ⊥

-- the saved rows are refused; if memory ran out, nothing is claimed
abbrev pub IsUnopened : StepRecord → (records : ℕ) → (replace : Bool) → Option SavedRows → StepError → Type 0
IsUnopened step records replace saved (Saved place) = slice_get (saved_faults step records replace saved) 0 ≡ Some place
IsUnopened step records replace saved Memory = Unit {0}
IsUnopened step records replace saved _ = ⊥

-- Nothing can be prepared: by the mapper's fault, the first of its plan, or the first of the saved rows. If memory ran out, nothing is claimed.
abbrev pub IsUnplanned : StepRecord → ℕ → Result PartitionPlan ClassId → Option SavedRows → StepError → Type 0
IsUnplanned step records mapped saved (Mapper class) = mapped ≡ Err class
IsUnplanned step records mapped saved (Plan fault) = (plan : PartitionPlan) × (mapped ≡ Ok plan) × IsFirst fault (plan_errors records plan)
IsUnplanned step records mapped saved (Saved place) =
    (plan : PartitionPlan) × (mapped ≡ Ok plan) × IsRunnable records plan × (slice_get (saved_faults step records plan.replace saved) 0 ≡ Some place)
IsUnplanned step records mapped saved Memory = Unit {0}
IsUnplanned step records mapped saved _ = ⊥

-- The rollback of discarded results failed: `after` was called, and nothing more. If memory ran out, some of the two calls were taken.
abbrev pub IsDiscardRefused : StepError → (before after : List (AnsweredCall ReducerCall)) → Type 0
IsDiscardRefused (Reducer class) before after = (fault : Option ClassId) × (after ≡ before ++ faulted Rollback class ∷ record { call = After status.Rollback; fault = fault } ∷ [])
IsDiscardRefused Memory before after = AreSome (calls_of (since before after)) rolled_back
IsDiscardRefused _ before after = ⊥
