-- A step whose mapper has a plan, and whose reducer answers each call well.
use Rattle.std.proofs.Common.{◌≡◌, ℕ, Bool, true, false, Option, Some, None, List, [], ◌∷◌, ◌++◌, Result, Ok, ◌⊎◌, inl, inr, length, map, refl, ap, sym, subst, ◌∙◌}
use Rattle.jb_job.specs.Records.{SpecRecord, StepRecord}
use Rattle.jb_base.specs.declared.class.ClassId.{ClassId}
use Rattle.jb_base.specs.declared.range.Range.{Range}
use Rattle.jb_plan.specs.declared.fault.PlanError.{PlanError}
use Rattle.jb_plan.specs.declared.plan.PartitionPlan.{PartitionPlan}
use Rattle.jb_mapper.specs.EvenCover.{even_ranges}
use Rattle.jb_mapper.specs.Mapping.{even, fixed}
use Rattle.jb_collect.specs.declared.calls.ReducerCall.{ReducerCall}
use Rattle.jb_collect.specs.declared.calls.ReducerCall.TheVariants.{Begin}
use Rattle.jb_collect.specs.AnsweredCalls.{AnsweredCall, Grew, calls_of, faulted, since, well}
use Rattle.jb_step.specs.preparing.Prepare.{CanOverride, IsFaultedRollback, IsPrepareRefusal}
use Rattle.jb_step.specs.callbacks.Callbacks.{has_fault}
use Rattle.jb_saved.specs.SavedRows.{SavedRows}
use Rattle.jb_saved.specs.declared.place.SavedPlace.{SavedPlace}
use Rattle.jb_step.specs.declared.error.StepError.{StepError}
use Rattle.jb_step.specs.declared.error.StepError.TheVariants as error
use Rattle.jb_program.specs.JobRun.{plan_for, ranges_for}
use Rattle.jb_program.proofs.Callbacks.{well-faults, well-grew}

-- ---- the mapper's plan

pub even-plan : (spec : SpecRecord) (records partitions threads : ℕ) (replace : Bool) → spec.ranges ≡ None → partitions ≡ spec.partitions → threads ≡ spec.threads → replace ≡ spec.replace
    → ◌≡◌ {A = Result PartitionPlan ClassId} (even partitions threads replace records) (Ok (plan_for spec records))
even-plan spec records partitions threads replace none same-partitions same-threads same-replace =
    let ranges : even_ranges records partitions ≡ ranges_for spec spec.ranges records = ap (even_ranges records) same-partitions ∙ sym (ap (λ own. ranges_for spec own records) none) in
    (λ i. Ok (record { ranges = ranges i; threads = same-threads i; replace = same-replace i }))

pub own-plan : (spec : SpecRecord) (records : ℕ) (own : List Range) (threads : ℕ) (replace : Bool) → spec.ranges ≡ Some own → threads ≡ spec.threads → replace ≡ spec.replace
    → ◌≡◌ {A = Result PartitionPlan ClassId} (fixed (record { ranges = own; threads = threads; replace = replace }) records) (Ok (plan_for spec records))
own-plan spec records own threads replace some same-threads same-replace =
    let ranges : own ≡ ranges_for spec spec.ranges records = sym (ap (λ given. ranges_for spec given records) some) in
    (λ i. Ok (record { ranges = ranges i; threads = same-threads i; replace = same-replace i }))

-- ---- what `prepare` leaves

-- only the plan and the saved rows may be refused, where there is memory
pub other-refusal : (step : StepRecord) (records : ℕ) (mapped : Result PartitionPlan ClassId) (saved : Option SavedRows) (plan : PartitionPlan) (before : List (AnsweredCall ReducerCall)) (new : List ReducerCall) (e : StepError) → Grew before (map well new) → mapped ≡ Ok plan
    → IsPrepareRefusal step records mapped saved (since before (map well new)) e → ((fault : PlanError) → e ≡ error.Plan fault → ⊥) → ((place : SavedPlace) → e ≡ error.Saved place → ⊥) → (e ≡ error.Memory → ⊥) → ⊥
other-refusal step records mapped saved plan before new (error.Plan fault) grew maps is plans places memory = plans fault refl
other-refusal step records mapped saved plan before new (error.Mapper class) grew maps is plans places memory = cc
other-refusal step records mapped saved plan before new (error.Reducer class) grew maps is plans places memory =
    no-fault is
  where
    no-fault : (since before (map well new) ≡ faulted Begin class ∷ []) ⊎ CanOverride step records mapped saved × IsFaultedRollback class (since before (map well new)) → ⊥
    no-fault (inl at_begin) = let none : false ≡ true = sym (well-faults (length before) new) ∙ ap has_fault at_begin in cc
    no-fault (inr later) = let none : false ≡ true = sym (well-faults (length before) new) ∙ ap has_fault later.1.calls in cc
other-refusal step records mapped saved plan before new error.WrongArtifacts grew maps is plans places memory = is
other-refusal step records mapped saved plan before new (error.Repository p) grew maps is plans places memory = is
other-refusal step records mapped saved plan before new error.Workers grew maps is plans places memory = is
other-refusal step records mapped saved plan before new (error.Saved place) grew maps is plans places memory = places place refl
other-refusal step records mapped saved plan before new error.Memory grew maps is plans places memory = memory refl

-- the reducer took these calls more
pub begun : (before after : List (AnsweredCall ReducerCall)) (old new calls : List ReducerCall) → Grew before after → calls_of (since before after) ≡ calls
    → before ≡ map well old → after ≡ map well new → new ≡ old ++ calls
begun before after old new calls grew taken was is =
    let grown = subst (λ (list : List (AnsweredCall ReducerCall)). Grew list after) was grew in
    let all = subst (λ (list : List (AnsweredCall ReducerCall)). Grew (map well old) list) is grown in
    let first = subst (λ (list : List (AnsweredCall ReducerCall)). calls_of (since list after) ≡ calls) was taken in
    let next = subst (λ (list : List (AnsweredCall ReducerCall)). calls_of (since (map well old) list) ≡ calls) is first in
    well-grew old new all ∙ ap (λ cs. old ++ cs) next
