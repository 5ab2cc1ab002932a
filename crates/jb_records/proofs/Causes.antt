-- Why a step over records has no end, from call to call.
use Rattle.std.proofs.Common.{◌≡◌, ℕ, zero, suc, ◌+◌, ◌-◌, ◌≤◌, ◌<◌, ◌⊎◌, inl, inr, Bool, true, false, cond, List, [], ◌∷◌, ◌++◌, length, map, drop, take, get_or, Option, Some, None, Result, Ok, refl, ap, sym, subst, ◌∙◌, arith}
use Rattle.std.proofs.lemmas.List.{get_or-drop, get_or-take, length-append, length-take-le, take_more}
use Rattle.std.proofs.lemmas.List.Sums.{sum_by-append, sum_by-cons, sum_by-take-le}
use Rattle.std.proofs.lemmas.Option.{get_or_from_slice_get, slice_get_within}
use Rattle.std.specs.Prelude.{Err, IfErr, IsErrAnd, slice_get, slice_index_or}
use Rattle.jb_base.specs.declared.class.ClassId.{ClassId}
use Rattle.jb_base.specs.declared.range.Range.{Range}
use Rattle.jb_base.specs.Rules.{RulesRecord}
use Rattle.jb_collect.specs.declared.calls.ReducerCall.{ReducerCall}
use Rattle.jb_collect.specs.AnsweredCalls.{AnsweredCall, faulted, since, well}
use Rattle.jb_collect.specs.declared.calls.ReducerCall.TheVariants.{Begin}
use Rattle.jb_job.specs.Records.{StepRecord}
use Rattle.jb_plan.specs.Faults.{IsFirst, plan_errors}
use Rattle.jb_plan.specs.declared.plan.PartitionPlan.{PartitionPlan}
use Rattle.jb_rules.specs.declared.row.Row.{Row}
use Rattle.jb_rules.specs.Rows.{dropped_row, fresh_row}
use Rattle.jb_rules.specs.States.{is_failed}
use Rattle.jb_step.specs.declared.error.StepError.{StepError}
use Rattle.jb_step.specs.declared.error.StepError.TheVariants as error
use Rattle.jb_saved.specs.GoingOn.{restarted}
use Rattle.jb_saved.specs.SavedRows.{SavedRows}
use Rattle.jb_step.specs.callbacks.Callbacks.{has_fault}
use Rattle.jb_step.specs.preparing.Prepare.{CanOverride, IsFaultedRollback, IsPreparation, IsPrepareRefusal}
use Rattle.jb_step.specs.preparing.Setup.{Setup, fresh_rows, gone_on, opening_rows, saved_faults}
use Rattle.jb_records.specs.Causes.{Explains, HasSkippedTry, Joined, Make, Prepare, Unseen, prepare_evenly, rows_in, written_in}
use Rattle.jb_records.specs.declared.error.RecordsStepError.{RecordsStepError}
use Rattle.jb_records.specs.declared.error.RecordsStepError.TheVariants.{Memory, Records, Results, SkippedTry, Step}
use Rattle.jb_records.specs.declared.step.RecordsStep.{RecordsStep}
use Rattle.jb_records.specs.Function.{Function, tries_of}
use Rattle.jb_records.specs.Made.{even_partitions, step_record}
use Rattle.jb_records.specs.Artifacts.{AreNeverSkipped, own_records, record_of}
use Rattle.jb_records.specs.PartitionResults.{AreNumbered, joined}
use Rattle.jb_records.proofs.Calling.{own-length}
use Rattle.jb_records.proofs.Steps.{well-faults}

-- ---- AN ERROR IS HANDED ON

pub handed-on : {A : Type 0} (r : Result A RecordsStepError) (e : RecordsStepError) (P : RecordsStepError → Type 0) → IsErrAnd r (λ one. one ≡ e) → P e → IfErr r P
handed-on (Ok x) e P is holds = tt
handed-on (Err one) e P is holds = subst P (sym is) holds

-- ---- THE STEP ISN'T PREPARED

plan-is : (plan other : PartitionPlan) → ◌≡◌ {A = Result PartitionPlan ClassId} (Ok plan) (Ok other) → other ≡ plan
plan-is plan other is = cc

no-plan : (plan : PartitionPlan) (class : ClassId) → ◌≡◌ {A = Result PartitionPlan ClassId} (Ok plan) (Err class) → ⊥
no-plan plan class is = cc

-- the reducer answers each call well
no-fault : (step : StepRecord) (records : ℕ) (mapped : Result PartitionPlan ClassId) (saved : Option SavedRows) (before : List (AnsweredCall ReducerCall)) (new : List ReducerCall) (class : ClassId)
    → (since before (map well new) ≡ faulted Begin class ∷ []) ⊎ CanOverride step records mapped saved × IsFaultedRollback class (since before (map well new)) → ⊥
no-fault step records mapped saved before new class (inl at_begin) = let none : false ≡ true = sym (well-faults (length before) new) ∙ ap has_fault at_begin in cc
no-fault step records mapped saved before new class (inr later) = let none : false ≡ true = sym (well-faults (length before) new) ∙ ap has_fault later.1.calls in cc

pub unprepared : (step : StepRecord) (records : ℕ) (mapped : Result PartitionPlan ClassId) (plan : PartitionPlan) (saved : Option SavedRows) (before : List (AnsweredCall ReducerCall)) (new : List ReducerCall) (e : StepError) → mapped ≡ Ok plan → plan.replace ≡ false
    → IsPrepareRefusal step records mapped saved (since before (map well new)) e → Explains (Prepare step records plan saved Unseen) (Step e)
unprepared step records mapped plan saved before new (error.Plan fault) maps kept is =
    subst (λ (p : PartitionPlan). IsFirst fault (plan_errors records p)) (plan-is plan is.0 (sym maps ∙ is.1)) is.2
unprepared step records mapped plan saved before new (error.Mapper class) maps kept is = absurd (no-plan plan class (sym maps ∙ is))
unprepared step records mapped plan saved before new (error.Reducer class) maps kept is = absurd (no-fault step records mapped saved before new class is)
unprepared step records mapped plan saved before new (error.Saved place) maps kept is =
    let own = subst (λ (p : PartitionPlan). slice_get (saved_faults step records p.replace saved) 0 ≡ Some place) (plan-is plan is.0 (sym maps ∙ is.1)) is.3 in
    subst (λ (b : Bool). slice_get (saved_faults step records b saved) 0 ≡ Some place) kept own
unprepared step records mapped plan saved before new e maps kept is = is

-- ---- THE EARLIER RESULTS ARE OTHERS

fresh-written : (ranges : List Range) → written_in (fresh_rows ranges) ≡ 0
fresh-written [] = refl
fresh-written (r ∷ rs) =
    let first = sum_by-cons (λ (row : Row). row.written) (fresh_row r) (fresh_rows rs) in
    let rest = fresh-written rs in
    omega (arith, first, rest)

kept-by : (failed : Bool) (row : Row) → (cond failed (dropped_row row) row).written ≡ row.written
kept-by true row = refl
kept-by false row = refl

again-written : (rows : List Row) → written_in (map restarted rows) ≡ written_in rows
again-written [] = refl
again-written (row ∷ rows) =
    let first = sum_by-cons (λ (r : Row). r.written) (restarted row) (map restarted rows) in
    let was = sum_by-cons (λ (r : Row). r.written) row rows in
    let kept = kept-by (is_failed row.state) row in
    let rest = again-written rows in
    omega (arith, first, was, kept, rest)

pub opening-written : (ranges : List Range) (saved : Option SavedRows) → written_in (opening_rows ranges saved) ≡ written_in (rows_in saved)
opening-written ranges None = fresh-written ranges
opening-written ranges (Some held) = again-written held.rows

numbered-written : (rows : List Row) (partition_results : List (List (List ℕ))) → AreNumbered rows partition_results → length (joined partition_results) ≡ written_in rows
numbered-written [] [] are = refl
numbered-written [] (share ∷ partition_results) are = absurd are
numbered-written (row ∷ rows) [] are = absurd are
numbered-written (row ∷ rows) (share ∷ partition_results) are =
    let first = are.0 in
    let rest = numbered-written rows partition_results are.1 in
    let all = sum_by-cons (λ (r : Row). r.written) row rows in
    length-append share (joined partition_results) ∙ omega (arith, first, rest, all)

written-before : (rows : List Row) (partition_results : List (List (List ℕ))) (earlier : List (List ℕ)) (place : ℕ) → AreNumbered rows partition_results → joined partition_results ≡ take place earlier → place ≤ length earlier → written_in rows ≡ place
written-before rows partition_results earlier place are is few = sym (numbered-written rows partition_results are) ∙ ap length is ∙ length-take-le place earlier few

-- more than all shares have
pub too-many : (rows : List Row) (partition_results : List (List (List ℕ))) (earlier : List (List ℕ)) (place : ℕ) → AreNumbered rows partition_results → joined partition_results ≡ take place earlier → place ≤ length earlier → (place ≡ length earlier → ⊥)
    → length earlier ≡ written_in rows → ⊥
too-many rows partition_results earlier place are is few more all = more (sym (all ∙ written-before rows partition_results earlier place are is few))

-- fewer than the next share has
pub too-few : (rows : List Row) (p : ℕ) (row : Row) (partition_results : List (List (List ℕ))) (earlier : List (List ℕ)) (place : ℕ) → Some row ≡ slice_get rows p → AreNumbered (take p rows) partition_results → joined partition_results ≡ take place earlier → place ≤ length earlier
    → length earlier < place + row.written → length earlier ≡ written_in rows → ⊥
too-few rows p row partition_results earlier place at are is few less all =
    let here : get_or rows p row ≡ row = get_or_from_slice_get rows p row row (sym at) in
    let longer : take (p + 1) rows ≡ take p rows ++ row ∷ [] = take_more rows p row (slice_get_within rows p row (sym at)) ∙ ap (λ r. take p rows ++ r ∷ []) here in
    let next : written_in (take (p + 1) rows) ≡ written_in (take p rows) + written_in (row ∷ []) = ap written_in longer ∙ sum_by-append (λ (r : Row). r.written) (take p rows) (row ∷ []) in
    let before = written-before (take p rows) partition_results earlier place are is few in
    let most = sum_by-take-le (λ (r : Row). r.written) rows (p + 1) in
    let one : written_in (row ∷ []) ≡ row.written = omega arith in
    absurd (omega (arith, next, before, most, one, less, all))

pub whole-at : (rows : List Row) (p : ℕ) → slice_get rows p ≡ None → take p rows ≡ rows
whole-at [] zero none = refl
whole-at [] (suc p) none = refl
whole-at (row ∷ rows) zero none = absurd (cc none)
whole-at (row ∷ rows) (suc p) none = ap (λ rs. row ∷ rs) (whole-at rows p none)

-- the rows that the step was prepared with
pub opened-rows : (step : RecordsStep) (records : ℕ) (saved : Option SavedRows) (s : Setup) (its : IsPreparation (step_record step) records (Ok (even_partitions step records)) saved s) → s.rows ≡ opening_rows its.plan.ranges saved
opened-rows step records saved s its =
    its.rows ∙ ap (λ (b : Bool). opening_rows its.plan.ranges (gone_on b saved)) (ap (λ (p : PartitionPlan). p.replace) (plan-is (even_partitions step records) its.plan its.mapping))

pub others-refused : (step : RecordsStep) (records : ℕ) (saved : Option SavedRows) (earlier : List (List ℕ)) (rows : List Row) (ranges : List Range) (e : RecordsStepError) → rows ≡ opening_rows ranges saved
    → (e ≡ Memory) ⊎ (e ≡ Results) × (length earlier ≡ written_in rows → ⊥) → Explains (prepare_evenly step records saved (Joined earlier)) e
others-refused step records saved earlier rows ranges e are (inl memory) = subst (Explains (prepare_evenly step records saved (Joined earlier))) (sym memory) tt
others-refused step records saved earlier rows ranges e are (inr others) =
    subst (Explains (prepare_evenly step records saved (Joined earlier))) (sym others.0) (λ all. others.1 (all ∙ sym (ap written_in are ∙ opening-written ranges saved)))

-- ---- A FIRST TRY IS SKIPPED

pub skipped-here : (f : Function) (rules : RulesRecord) (first : ℕ) (records : List (List ℕ)) (i : ℕ) (bytes : List ℕ) (classes : List ClassId) → i < length records → bytes ≡ slice_index_or records i []
    → classes ≡ tries_of f bytes → (AreNeverSkipped rules classes → ⊥) → HasSkippedTry f rules first records
skipped-here f rules first records i bytes classes within is written_before skipped =
    let place : i ≡ first + i - first = omega arith in
    let same : classes ≡ tries_of f (record_of first records (first + i)) = written_before ∙ ap (tries_of f) (is ∙ ap (λ n. slice_index_or records n []) place) in
    record { number = first + i; from = omega arith; to = omega (arith, within); skipped = λ are. skipped (subst (AreNeverSkipped rules) (sym same) are) }

-- one of a partition's records is one of all
pub skipped-own : (f : Function) (rules : RulesRecord) (records : List (List ℕ)) (row : Row) → row.lo ≤ row.hi → row.hi ≤ length records → HasSkippedTry f rules row.lo (own_records records row) → HasSkippedTry f rules 0 records
skipped-own f rules records row order below has =
    let k = has.number in
    let from = has.from in
    let to = has.to in
    let long = own-length records row order below in
    let inside : k - row.lo < row.hi - row.lo = omega (arith, from, to, long, order) in
    let place : row.lo + (k - row.lo) ≡ k - 0 = omega (arith, from) in
    let same : record_of row.lo (own_records records row) k ≡ record_of 0 records k =
    get_or-take (row.hi - row.lo) (drop row.lo records) (k - row.lo) [] inside ∙ get_or-drop row.lo records (k - row.lo) [] ∙ ap (λ n. get_or records n []) place in
    record {
      number = k;
      from = omega arith;
      to = omega (arith, to, long, order, below, from);
      skipped = λ are. has.skipped (subst (λ bytes. AreNeverSkipped rules (tries_of f bytes)) (sym same) are);
    }

pub refused-own : (f : Function) (rules : RulesRecord) (records : List (List ℕ)) (row : Row) (e : RecordsStepError) → row.lo ≤ row.hi → row.hi ≤ length records → Explains (Make f rules row.lo (own_records records row)) e
    → Explains (Make f rules 0 records) e
refused-own f rules records row Records order below is = is
refused-own f rules records row Results order below is = is
refused-own f rules records row SkippedTry order below is = skipped-own f rules records row order below is
refused-own f rules records row (Step (error.Plan fault)) order below is = is
refused-own f rules records row (Step e) order below is = is
refused-own f rules records row Memory order below is = is
