-- Calls that were all answered well.
use Rattle.std.proofs.Common.{◌≡◌, ℕ, zero, suc, Bool, false, List, [], ◌∷◌, ◌++◌, drop, length, map, refl, ap, ap₂, sym, ◌∙◌}
use Rattle.std.proofs.Math.Seq.{drop-nil}
use Rattle.jb_collect.specs.declared.calls.ReducerCall.{ReducerCall}
use Rattle.jb_collect.specs.declared.calls.ReducerCall.TheVariants.{Begin, Before, Rollback, After}
use Rattle.jb_collect.specs.ReducerCalls.{before_failed, calls_after}
use Rattle.jb_collect.specs.AnsweredCalls.{AnsweredCall, Grew, calls_of, since, well}
use Rattle.jb_repo.specs.declared.snapshot.Snapshot.{Snapshot}
use Rattle.jb_step.specs.Answers.{AreCallsAfter}
use Rattle.jb_step.specs.callbacks.Callbacks.{has_fault}
use Rattle.jb_step.specs.Statuses.{status_of}
use Rattle.jb_collect.specs.declared.calls.AnalyzerCall.{AnalyzerCall}

pub well-calls : {C : Type 0} (calls : List C) → calls_of (map well calls) ≡ calls
well-calls [] = refl
well-calls (call ∷ calls) = ap (λ cs. call ∷ cs) (well-calls calls)

-- none of them was answered with a fault
pub well-faults : {C : Type 0} (n : ℕ) (calls : List C) → has_fault (drop n (map well calls)) ≡ false
well-faults n [] = ap has_fault (drop-nil n)
well-faults zero (call ∷ calls) = well-faults zero calls
well-faults (suc n) (call ∷ calls) = well-faults n calls

well-before : (n : ℕ) (calls : List ReducerCall) → before_failed (drop n (map well calls)) ≡ false
well-before n [] = ap before_failed (drop-nil n)
well-before zero (Begin ∷ calls) = well-before zero calls
well-before zero (Before ∷ calls) = well-before zero calls
well-before zero (Rollback ∷ calls) = well-before zero calls
well-before zero (After status ∷ calls) = well-before zero calls
well-before (suc n) (call ∷ calls) = well-before n calls

calls-append : {C : Type 0} (one other : List (AnsweredCall C)) → calls_of (one ++ other) ≡ calls_of one ++ calls_of other
calls-append [] other = refl
calls-append (t ∷ one) other = ap (λ cs. t.call ∷ cs) (calls-append one other)

-- what is kept grew by the calls since then
pub well-grew : {C : Type 0} (old new : List C) → Grew (map well old) (map well new) → new ≡ old ++ calls_of (since (map well old) (map well new))
well-grew old new grew =
    let next = since (map well old) (map well new) in
    sym (well-calls new) ∙ ap calls_of grew ∙ calls-append (map well old) next ∙ ap (λ cs. cs ++ calls_of next) (well-calls old)

-- the calls of a reducer at the end, where it and the analyzer answer each call well
pub well-after : (snapshot : Snapshot) (heard : List (AnsweredCall AnalyzerCall)) (more : List AnalyzerCall) (old new : List ReducerCall) → Grew (map well old) (map well new)
    → AreCallsAfter snapshot (since heard (map well more)) (since (map well old) (map well new)) → new ≡ old ++ calls_after (status_of snapshot.rows.items false) false
well-after snapshot heard more old new grew after =
    well-grew old new grew
    ∙ ap (λ cs. old ++ cs) (after
    ∙ ap₂ (λ reported before. calls_after (status_of snapshot.rows.items reported) before) (well-faults (length heard) more) (well-before (length (map {B = AnsweredCall ReducerCall} well old)) new))
