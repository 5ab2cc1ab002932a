-- Calls of a reducer, one after another.
use Rattle.std.proofs.Common.{◌≡◌, Bool, true, List, [], ◌∷◌, ◌++◌, drop, map, Option, Some, None, refl, ap, ◌∙◌, subst, sym, inl, inr, Ok, Err}
use Rattle.std.specs.Prelude.{Result}
use Rattle.jb_base.specs.declared.class.ClassId.{ClassId}
use Rattle.jb_base.specs.declared.artifact_error.ArtifactError.{ArtifactError}
use Rattle.jb_base.specs.declared.artifact_error.ArtifactError.TheVariants as artifact
use Rattle.jb_collect.specs.declared.calls.ReducerCall.{ReducerCall}
use Rattle.jb_collect.specs.declared.calls.ReducerCall.TheVariants.{Before, After}
use Rattle.jb_collect.specs.declared.calls.PartitionStatus.TheVariants as end
use Rattle.jb_collect.specs.ReducerCalls.{before_failed, rolled_back}
use Rattle.jb_collect.specs.AnsweredCalls.{AnsweredCall, Grew, TakesCall, calls_of, since}
use Rattle.jb_collect.proofs.Taking.{behind, since_is}
use Rattle.jb_step.specs.declared.rounds.error.StepRunError.{StepRunError}
use Rattle.jb_step.specs.Answers.{AreCallsInPart}
use Rattle.jb_step.specs.callbacks.Callbacks.{AreSome}
use Rattle.jb_step.specs.inside.callbacks.Reducing.{IsReducing, callback_fault}

-- WITHOUT MEMORY

none-some : {A : Type 0} (all : List A) → AreSome [] all
none-some [] = refl
none-some (x ∷ xs) = inl (none-some xs)

not-before : (cs : List ReducerCall) → AreSome (Before ∷ cs) rolled_back → ⊥
not-before cs (inl (inl h)) = cc
not-before cs (inl (inr h)) = let e = h.1 in cc
not-before cs (inr h) = let e = h.1 in cc

pub undone-in-part : (taken : List (AnsweredCall ReducerCall)) → AreSome (calls_of taken) rolled_back → AreCallsInPart taken
undone-in-part taken some = record {
  some = inl some;
  alone = λ more e. absurd (not-before (calls_of more) (subst (λ ts. AreSome (calls_of ts) rolled_back) e some));
}

-- where `before_completion` alone was called: what it was answered
only : (ts : List (AnsweredCall ReducerCall)) → calls_of ts ≡ Before ∷ [] → (fault : Option ClassId) × (ts ≡ record { call = Before; fault = fault } ∷ [])
only [] e = absurd (cc e)
only (t ∷ []) e = let call : t.call ≡ Before = cc in (t.fault, λ i. record { call = call i; fault = t.fault } ∷ [])
only (t ∷ (u ∷ ts)) e = absurd (cc e)

failed-in-part : (ones twos : List (AnsweredCall ReducerCall)) → IsReducing (Before ∷ []) true true ones → AreSome (calls_of twos) rolled_back → AreCallsInPart (ones ++ twos)
failed-in-part ones twos one two =
    let first = only ones one.calls_are in
    subst (λ ts. AreCallsInPart (ts ++ twos)) (sym first.1) (by first.0 (sym (ap before_failed first.1) ∙ one.before_is))
  where
    by : (fault : Option ClassId) → before_failed (record { call = Before; fault = fault } ∷ []) ≡ true → AreCallsInPart (record { call = Before; fault = fault } ∷ twos)
    by None e = absurd (cc e)
    by (Some class) e = record { some = inr (calls_of twos, refl, two); alone = λ more is. let faults = ap (map (λ (t : AnsweredCall ReducerCall). t.fault)) is in cc }

-- `before_completion` failed, and then some of a rollback's calls were taken
pub ending-failed-in-part : (before mid after : List (AnsweredCall ReducerCall)) (first : Bool) → first ≡ true → Grew before mid → Grew mid after → IsReducing (Before ∷ []) first first (since before mid)
    → AreSome (calls_of (since mid after)) rolled_back → AreCallsInPart (since before after)
ending-failed-in-part before mid after first failed earlier later one two =
    subst AreCallsInPart (since_is before after (since before mid ++ since mid after) (behind before mid after earlier later))
    (failed-in-part (since before mid) (since mid after) (subst (λ b. IsReducing (Before ∷ []) b b (since before mid)) failed one) two)

-- a call that found no memory wasn't taken
not-taken : (before after : List (AnsweredCall ReducerCall)) (call : ReducerCall) (answer : Result (Unit {0}) ArtifactError) (e : StepRunError) → TakesCall before call answer after → Err e ≡ callback_fault answer → after ≡ before
not-taken before after call (Ok done) e h is = let never : ⊥ = cc in absurd never
not-taken before after call (Err (artifact.Fault class)) e h is = let never : ⊥ = cc in absurd never
not-taken before after call (Err artifact.Memory) e h is = h

-- it was answered well, and `after(Commit)` found no memory
pub ending-well-in-part : (before mid after : List (AnsweredCall ReducerCall)) (first : Bool) (answer : Result (Unit {0}) ArtifactError) (e : StepRunError) → IsReducing (Before ∷ []) first first (since before mid)
    → TakesCall mid (After end.Commit) answer after → Err e ≡ callback_fault answer → AreCallsInPart (since before after)
ending-well-in-part before mid after first answer e one last none =
    subst (λ xs. AreCallsInPart (since before xs)) (sym (not-taken mid after (After end.Commit) answer e last none))
    (record { some = inr ([], one.calls_are, none-some rolled_back); alone = λ more is. ap (drop 1) (sym is ∙ (only (since before mid) one.calls_are).1) })
