-- Why an interval of a run that stays in memory breaks off.
use Rattle.std.proofs.Common.{◌≡◌, ℕ, ◌≤◌, Bool, true, false, not, List, [], ◌∷◌, ◌++◌, length, Some, refl, ap, ap₂, arith}
use Rattle.std.proofs.lemmas.Bool.Decides.{nat_tests}
use Rattle.std.proofs.lemmas.Slice.Eq.{bytes_eq-Decides}
use Rattle.std.specs.Prelude.{bytes_eq, nat_lt, slice_get}
use Rattle.jb_base.specs.Limits.{max_partitions, max_records, max_threads_asked}
use Rattle.jb_plan.specs.declared.fault.PlanError.{PlanError}
use Rattle.jb_plan.specs.declared.fault.PlanError.TheVariants.{Threads, TooMany}
use Rattle.jb_plan.specs.declared.plan.PartitionPlan.{PartitionPlan}
use Rattle.jb_plan.specs.Faults.{IsFirst, error_if, overlap_errors, plan_errors, range_errors}
use Rattle.jb_plan.specs.Plans.{IsRunnable}
use Rattle.jb_plan.proofs.NoFaults.{overlap-runnable, ranges-runnable}
use Rattle.jb_step.specs.declared.error.StepError.{StepError}
use Rattle.jb_step.specs.declared.error.StepError.TheVariants as error
use Rattle.jb_saved.specs.declared.place.SavedPlace.{SavedPlace}
use Rattle.jb_saved.specs.declared.place.SavedPlace.TheVariants as place
use Rattle.jb_saved.specs.GoingOn.{fault_if, ends_past, step_faults}
use Rattle.jb_saved.specs.SavedRows.{SavedRows}
use Rattle.jb_step.specs.Answers.{IsRunError}
use Rattle.jb_records.specs.declared.error.RecordsStepError.{RecordsStepError}
use Rattle.jb_records.specs.declared.error.RecordsStepError.TheVariants.{Records, Step}
use Rattle.jb_records.specs.declared.step.RecordsStep.{RecordsStep}
use Rattle.jb_records.specs.Made.{even_partitions}
use Rattle.jb_records.specs.Causes.{Explains, Run, RunInterval, Unseen, prepare_evenly}

-- ---- A PLAN THAT CAN BE RUN HAS NO FIRST ERROR

none-of : (some rest : List PlanError) (fault : PlanError) → (IsFirst fault some → ⊥) → (IsFirst fault rest → ⊥) → IsFirst fault (some ++ rest) → ⊥
none-of [] rest fault one other is = other is
none-of (first ∷ some) rest fault one other is = one is

none-first : (holds : Bool) (one fault : PlanError) → holds ≡ false → IsFirst fault (error_if holds one) → ⊥
none-first true one fault none is = cc
none-first false one fault none is = cc

runnable-first : (records : ℕ) (plan : PartitionPlan) (fault : PlanError) → IsRunnable records plan → IsFirst fault (plan_errors records plan) → ⊥
runnable-first records plan fault can is =
    let few = can.few in
    let asked = can.threads in
    let enough : nat_lt max_partitions (length plan.ranges) ≡ false = grind (arith, nat_tests) in
    let all : nat_lt max_threads_asked plan.threads ≡ false = grind (arith, nat_tests) in
    let many = error_if (nat_lt max_partitions (length plan.ranges)) TooMany in
    let ranges = range_errors records plan.ranges in
    let overlaps = overlap_errors 0 plan.ranges in
    none-of (many ++ ranges ++ overlaps) (error_if (nat_lt max_threads_asked plan.threads) Threads) fault
    (none-of (many ++ ranges) overlaps fault (none-of many ranges fault (none-first (nat_lt max_partitions (length plan.ranges)) TooMany fault enough) (ranges-runnable records plan fault plan.ranges refl can)) (overlap-runnable records plan fault plan.ranges refl can))
    (none-first (nat_lt max_threads_asked plan.threads) Threads fault all) is

-- ---- AN INTERVAL BREAKS OFF

-- they are the step's own
no-fault-if : (holds : Bool) (fault : SavedPlace) → holds ≡ false → fault_if holds fault ≡ []
no-fault-if true fault none = let never : ⊥ = cc in absurd never
no-fault-if false fault none = refl

no-faults : (step : List ℕ) (count : ℕ) (held : SavedRows) → held.step ≡ step → ends_past count held.rows ≡ false → step_faults step count held ≡ []
no-faults step count held own past =
    ap₂ (λ (some more : List SavedPlace). some ++ more) (no-fault-if (not (bytes_eq held.step step)) place.Step (ap not ((bytes_eq-Decides held.step step).1 own))) (no-fault-if (ends_past count held.rows) place.Records past)

no-place : (fault : SavedPlace) (faults : List SavedPlace) → faults ≡ [] → slice_get faults 0 ≡ Some fault → ⊥
no-place fault [] none is = cc
no-place fault (first ∷ faults) none is = cc

-- and the step is prepared from them
pub unprepared-again : (step : RecordsStep) (count : ℕ) (held : SavedRows) (e : RecordsStepError) → count ≤ max_records → IsRunnable count (even_partitions step count) → held.step ≡ step.id → ends_past count held.rows ≡ false
    → Explains (prepare_evenly step count (Some held) Unseen) e → Explains RunInterval e
unprepared-again step count held Records few can own past is = omega (arith, few, is)
unprepared-again step count held (Step (error.Plan fault)) few can own past is = runnable-first count (even_partitions step count) fault can is
unprepared-again step count held (Step (error.Repository p)) few can own past is = tt
unprepared-again step count held (Step error.Workers) few can own past is = tt
unprepared-again step count held (Step (error.Saved p)) few can own past is = no-place p (step_faults step.id count held) (no-faults step.id count held own past) is
unprepared-again step count held e few can own past is = is

pub run-broken : (Fit : Type 0) (e : StepError) → IsRunError e → (e ≡ error.WrongArtifacts → Fit → ⊥) → Explains (Run Fit) (Step e)
run-broken Fit error.WrongArtifacts is wrong = wrong refl
run-broken Fit e is wrong = is

pub broke-off : (Fit : Type 0) (e : RecordsStepError) → Explains (Run Fit) e → Fit → Explains RunInterval e
broke-off Fit (Step error.WrongArtifacts) is fit = absurd (is fit)
broke-off Fit e is fit = is
