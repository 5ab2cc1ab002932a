-- The worked rows, computed.
use Rattle.std.proofs.Common.{◌≡◌, ◌≤◌, ℕ, Bool, true, false, not, ◌&&◌, length, drop, map, sym, ap, ◌∙◌, subst, arith, List, Option, None, [], ◌∷◌, ◌++◌, refl, lit≤, inl, inr}
use Rattle.std.proofs.Math.Dec.{leb}
use Rattle.std.proofs.lemmas.Bool.{and_parts, leb-true, not-true}
use Rattle.std.specs.Fmt.{digits}
use Rattle.std.specs.List.{list_all}
use Rattle.jb_base.specs.declared.class.ClassId.{ClassId}
use Rattle.jb_plan.specs.Blocks.{blocks}
use Rattle.jb_artifacts.specs.Faults.{used_at}
use Rattle.jb_cert.specs.declared.certificates.Certificate.{Certificate}
use Rattle.jb_cert.specs.declared.certificates.Certificate.TheVariants.{Longest, FullLoad}
use Rattle.jb_cert.specs.Certificates.{Holds, bound_certificate}
use Rattle.jb_cert.specs.Lawful.{IsLeast, Pair}
use Rattle.jb_cert.specs.Laws.{WrapAroundIsLeast}
use Rattle.jb_cert.specs.Load.{mcnaughton}
use Rattle.jb_cert.specs.Plans.{sets_of as slots_sets}
use Rattle.jb_cert.specs.WrapAround.{wrapped_rounds}
use Rattle.jb_chunk.specs.Attempt.{end_of, asks_repeat, repeated_up_to, all_repeated, artifacts_used}
use Rattle.jb_chunk.specs.Block.{entry, results, count_of, settles, settling, used_between}
use Rattle.jb_chunk.specs.Worked.{class_e}
use Rattle.jb_collect.specs.declared.calls.ReducerCall.{ReducerCall}
use Rattle.jb_collect.specs.declared.calls.ReducerCall.TheVariants.{Begin, Before, Rollback, After}
use Rattle.jb_collect.specs.declared.calls.PartitionStatus.TheVariants as end
use Rattle.jb_collect.specs.ReducerCalls.{rolled_back}
use Rattle.jb_collect.specs.AnsweredCalls.{AnsweredCall, well, faulted, calls_of}
use Rattle.std.specs.Prelude.{is_some}
use Rattle.jb_step.specs.Tables.{Table, held_at}
use Rattle.jb_step.specs.callbacks.Callbacks.{AreSome, has_fault}
use Rattle.jb_step.specs.rounds.Rounds.{AreRun, CanRun, after_round, breaks, tasks_in}
use Rattle.jb_step.specs.rounds.Runs.{PlanRun, ArePlanRuns, IsPlanRun, rounds_run}
use Rattle.jb_step.specs.preparing.Prepare.{IsBegunThen}
use Rattle.jb_step.specs.preparing.Setup.{Setup, counts_now}
use Rattle.jb_step.specs.Worked.{CallsOfPrepare, CallsOfOverride, CallsWithoutMemory, ShortRuns, AfterReducer, WithoutMemory, WorkedRows, whole_seven, skipped_run, stopped_seven, plan_run, chunks, faulted_rollback, well_rollback}
use Rattle.jb_step.specs.inside.LowerLaws.{LowerLaws}
use Rattle.jb_step.proofs.plans.Planning.{least-wrapped}
use Rattle.jb_step.proofs.plans.Steady.{row_waits}

-- A PLAN

abbrev can_run : List Pair → Table → Bool
can_run set ts = list_all (λ (pair : Pair). is_some (held_at ts pair.0)) set && list_all row_waits (tasks_in set ts)

abbrev are_run : List (List Pair) → Table → Bool
are_run [] ts = true
are_run (set ∷ []) ts = can_run set ts
are_run (set ∷ (next ∷ later)) ts = can_run set ts && (not (breaks set ts) && are_run (next ∷ later) (after_round set ts))

can : (set : List Pair) (ts : Table) → can_run set ts ≡ true → CanRun set ts
can set ts e = let both = and_parts (list_all (λ (pair : Pair). is_some (held_at ts pair.0)) set) _ e in record { tasks = both.0; waiting = both.1 }

run-all : (rounds : List (List Pair)) (ts : Table) → are_run rounds ts ≡ true → AreRun rounds ts
run-all [] ts e = tt
run-all (set ∷ []) ts e = (can set ts e, inl refl, tt)
run-all (set ∷ (next ∷ later)) ts e =
    let first = and_parts (can_run set ts) _ e in
    let rest = and_parts (not (breaks set ts)) _ first.1 in
    (can set ts first.0, inr (not-true (breaks set ts) rest.0), run-all (next ∷ later) (after_round set ts) rest.1)

-- its rounds, their number, its certificate, whether there are threads, whether its rounds that were run are some and among
-- them, and whether they can be run, each but the last one quietly
abbrev Found : Type 0
Found = List (List Pair) × ℕ × Certificate × Bool × Bool × Bool × Bool

abbrev found : Table → (threads : ℕ) → PlanRun → Found
found before threads plan = (plan.rounds, length plan.rounds, plan.certificate, leb 1 threads, leb 1 plan.ran, leb plan.ran (length plan.rounds), are_run (rounds_run plan) before)

-- as in the wrap-around's plan for what is left
abbrev wrapped : List ℕ → (threads : ℕ) → Found
wrapped counts threads = (slots_sets (wrapped_rounds counts threads), mcnaughton counts threads, bound_certificate counts threads, true, true, true, true)

planned : LowerLaws → {s : Setup} {before : Table} {plan : PlanRun} → found before s.threads plan ≡ wrapped (counts_now s before) s.threads → IsPlanRun s before plan
planned law {s = s} {before = before} {plan = plan} e =
    let counts = counts_now s before in
    let some = leb-true 1 s.threads (ap (λ (x : Found). x.3) e) in
    record {
      least = subst (λ (rounds : List (List Pair)). IsLeast counts s.threads rounds) (sym (ap (λ (x : Found). x.0) e)) (least-wrapped law.least counts s.threads some);
      certified = subst (λ (x : ℕ × Certificate). Holds counts s.threads x.0 x.1) (sym (ap (λ (x : Found). (x.1, x.2)) e)) (law.certified counts s.threads some);
      some = leb-true 1 plan.ran (ap (λ (x : Found). x.4) e);
      among = leb-true plan.ran (length plan.rounds) (ap (λ (x : Found). x.5) e);
      run = run-all (rounds_run plan) before (ap (λ (x : Found). x.6) e);
    }

single : LowerLaws → {s : Setup} {before : Table} {plan : PlanRun} → found before s.threads plan ≡ wrapped (counts_now s before) s.threads → ArePlanRuns s before (plan ∷ [])
single law e = (planned law e, inl refl, tt)

-- WHAT IS NO RUN

seven_counts : counts_now whole_seven.step whole_seven.start ≡ 2 ∷ 1 ∷ 1 ∷ []
unfolding blocks
seven_counts = refl

too_slow : WrapAroundIsLeast → (plan : PlanRun) → length plan.rounds ≡ 4 → IsPlanRun whole_seven.step whole_seven.start plan → ⊥
too_slow law plan four run =
    let least = subst (λ counts. IsLeast counts 2 plan.rounds) seven_counts run.least in
    let few : length plan.rounds ≤ 2 = least.least (slots_sets (wrapped_rounds (2 ∷ 1 ∷ 1 ∷ []) 2)) (least-wrapped law (2 ∷ 1 ∷ 1 ∷ []) 2 (lit≤ tt)).lawful in
    absurd (omega (arith, four, few))

goes_on : IsPlanRun skipped_run.step skipped_run.start (plan_run (Longest 0) (chunks (0 ∷ 1 ∷ [])) 2) → ⊥
unfolding end_of asks_repeat repeated_up_to all_repeated settling settles entry results count_of artifacts_used used_between used_at digits blocks
goes_on run = elim run.run.1 [ inl none ↦ cc | inr quiet ↦ cc ]

left_open : ArePlanRuns stopped_seven.step stopped_seven.start (stopped_seven.plans ++ plan_run FullLoad [] 0 ∷ []) → ⊥
unfolding end_of asks_repeat repeated_up_to all_repeated settling settles entry results count_of artifacts_used used_between used_at digits blocks
left_open runs = elim runs.1 [ inl none ↦ cc | inr (inl whole) ↦ cc | inr (inr broken) ↦ cc ]

-- HOW SHORT A RUN IS

short_runs : ShortRuns
short_runs = record {
  left = refl;
  few = λ s few. record { plans = lit≤ tt; rounds = lit≤ tt; events = λ going. few };
  many = λ s going is short. let few = short.events going in absurd (omega (arith, is, few));
  stopped = λ s stopped. record { plans = lit≤ tt; rounds = lit≤ tt; events = λ going. (let never : true ≡ false = sym stopped ∙ going in cc) };
  idle = λ s short. let plans = short.plans in absurd (omega (arith, plans));
  long = λ s short. let rounds = short.rounds in absurd (omega (arith, rounds));
}

-- WHERE THE REDUCER'S CALLS END

abbrev faults_of : List (AnsweredCall ReducerCall) → List (Option ClassId)
faults_of taken = map (λ t. t.fault) taken

begun : {calls : List ReducerCall} {taken : List (AnsweredCall ReducerCall)} → IsBegunThen calls taken → calls_of taken ≡ Begin ∷ calls
begun h = ap calls_of h.begun ∙ ap (λ calls. Begin ∷ calls) h.calls_are

not_unbegun : WithoutMemory well_rollback → ⊥
not_unbegun (inl e) = cc
not_unbegun (inr h) = let calls = begun h.2 in cc

not_exchanged : AreSome (After end.Rollback ∷ Rollback ∷ []) (Before ∷ rolled_back) → ⊥
not_exchanged (inl (inl (inl e))) = cc
not_exchanged (inl (inl (inr h))) = let e = h.1 in let none = h.2 in cc
not_exchanged (inl (inr h)) = let e = h.1 in cc
not_exchanged (inr h) = let e = h.1 in cc

not_exchanged_after_begin : WithoutMemory (well Begin ∷ well (After end.Rollback) ∷ well Rollback ∷ []) → ⊥
not_exchanged_after_begin (inl e) = cc
not_exchanged_after_begin (inr h) =
    let calls : h.0 ≡ After end.Rollback ∷ Rollback ∷ [] = (let e = begun h.2 in cc) in
    not_exchanged (inl (subst (λ cs. AreSome cs rolled_back) calls h.1))

calls_of_prepare : CallsOfPrepare
calls_of_prepare = record {
  rolled_back = record { next = faulted_rollback; begun = refl; calls_are = refl };
  not_after_a_fault = λ h. let faults = ap faults_of h.begun in cc;
  not_left_so = λ h. let calls = begun h in cc;
  nothing = inl refl;
  begin_alone = inr ([], inl (inl refl), record { next = []; begun = refl; calls_are = refl });
  one_more = inr (After end.Rollback ∷ [], inl (inr ([], refl, refl)), record { next = well (After end.Rollback) ∷ []; begun = refl; calls_are = refl });
  not_unbegun = not_unbegun;
  not_exchanged = not_exchanged_after_begin;
}

not_twice : AfterReducer (well Begin ∷ faulted Rollback class_e ∷ well_rollback) → ⊥
not_twice (inl e) = let calls = ap calls_of e in cc
not_twice (inr later) = let calls = ap calls_of later.calls in cc

not_well : AfterReducer (well Begin ∷ well_rollback) → ⊥
not_well (inl e) = let calls = ap calls_of e in cc
not_well (inr later) = let faults = ap has_fault later.calls in cc

calls_of_override : CallsOfOverride
calls_of_override = record {
  begin_failed = inl refl;
  rollback_failed = inr (record { fault = None; calls = refl });
  not_twice = not_twice;
  not_well = not_well;
  discarded = refl;
  not_begun_alone = λ e. let calls = ap calls_of e in cc;
  not_rolled_back_first = λ e. let calls = ap calls_of e in cc;
}

calls_without_memory : CallsWithoutMemory
calls_without_memory = record {
  rolled_back = record { some = inl (inr (After end.Rollback ∷ [], refl, inr ([], refl, refl))); alone = λ more e. let calls = ap calls_of e in cc };
  before_failed = record { some = inr (After end.Rollback ∷ [], refl, inl (inr ([], refl, refl))); alone = λ more e. let faults = ap faults_of e in cc };
  before_alone = record { some = inr ([], refl, inl (inl refl)); alone = λ more e. ap (drop 1) (sym e) };
  not_after_it = λ h. let none = ap calls_of (h.alone well_rollback refl) in cc;
  not_committed = λ h. let none = ap calls_of (h.alone (well (After end.Commit) ∷ []) refl) in cc;
  not_exchanged = λ h. not_exchanged h.some;
}

-- ALL

pub worked : LowerLaws → WorkedRows
unfolding end_of asks_repeat repeated_up_to all_repeated settling settles entry results count_of artifacts_used used_between used_at digits blocks
worked law = (
  record { gives = (single law refl, refl); over = (inl refl, tt); events = refl },
  record { gives = (single law refl, refl); over = (inl refl, tt); events = refl },
  record { stopped = (single law refl, refl); needed = refl; restarted = (single law refl, refl); rows = refl; outputs = refl },
  record { first = (single law refl, refl); second = (single law refl, refl); third = (single law refl, refl); fourth = (single law refl, refl) },
  record { failed = (single law refl, refl); needed = refl; restarted = (single law refl, refl) },
  (tt, refl),
  record { gives = ((planned law refl, inr (inl refl), single law refl), refl); events = refl },
  ((planned law refl, inr (inr refl), single law refl), refl),
  record { slow = too_slow law.least; kept = goes_on; dropped = left_open },
  short_runs,
  calls_of_prepare,
  calls_of_override,
  record { goes_on = refl; anew = refl; discarded = refl; no_override = refl; first_run = refl },
  calls_without_memory,
)
