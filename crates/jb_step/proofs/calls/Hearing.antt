-- Calls one after another, up to the first fault.
use Rattle.std.proofs.Common.{◌≡◌, true, false, Option, Some, None, List, [], ◌∷◌, ◌++◌, refl, sym, subst}
use Rattle.std.specs.Prelude.{Result, Ok, Err, is_some}
use Rattle.jb_base.specs.declared.artifact_error.ArtifactError.{ArtifactError}
use Rattle.jb_base.specs.declared.artifact_error.ArtifactError.TheVariants.{Fault, Memory}
use Rattle.jb_base.specs.declared.class.ClassId.{ClassId}
use Rattle.jb_collect.specs.declared.calls.AnalyzerCall.{AnalyzerCall}
use Rattle.jb_collect.specs.Laws.{TakenOneAfterAnother, NoneAfterAFault}
use Rattle.jb_collect.specs.AnsweredCalls.{AnsweredCall, HasTaken, TakesCall, TakesCalls}
use Rattle.jb_collect.proofs.Taking.{none_taken, takes_one}
use Rattle.jb_step.specs.inside.callbacks.Telling.{Moment, IsCallbackAnswer, IsHearing, HearsMore, moment}

-- none, and more calls behind some
pub hears-none : (fault : Option ClassId) (taken : List (AnsweredCall AnalyzerCall)) → IsHearing fault taken [] (moment taken fault)
hears-none None taken = none_taken taken
hears-none (Some class) taken = refl

heard-by : TakenOneAfterAnother → NoneAfterAFault → (base taken : List (AnsweredCall AnalyzerCall)) (calls more : List AnalyzerCall) (fault : Option ClassId) (later : Moment)
    → HasTaken base calls fault taken → IsHearing fault taken more later → HasTaken base (calls ++ more) later.fault later.calls
heard-by one_after_another none_after base taken calls more None later heard next = one_after_another base taken later.calls calls more later.fault heard next
heard-by one_after_another none_after base taken calls more (Some class) later heard next =
    subst (λ (m : Moment). HasTaken base (calls ++ more) m.fault m.calls) (sym next) (none_after base taken calls more class heard)

pub hears-more : TakenOneAfterAnother → NoneAfterAFault → (before : Option ClassId) (base : List (AnsweredCall AnalyzerCall)) (calls more : List AnalyzerCall) (m later : Moment)
    → IsHearing before base calls m → HearsMore m more later → IsHearing before base (calls ++ more) later
hears-more one_after_another none_after None base calls more m later heard next = heard-by one_after_another none_after base m.calls calls more m.fault later heard next
hears-more one_after_another none_after (Some class) base calls more m later heard next = subst (λ (n : Moment). HearsMore n more later) heard next

-- what was answered to calls, and to one
pub heard-answer : (before after : List (AnsweredCall AnalyzerCall)) (calls : List AnalyzerCall) (answer : Result (Unit {0}) ArtifactError) (fault : Option ClassId) → TakesCalls before calls answer after → IsCallbackAnswer answer fault → HasTaken before calls fault after
heard-answer before after calls (Ok done) fault took is = subst (λ (f : Option ClassId). HasTaken before calls f after) (sym is) took
heard-answer before after calls (Err (Fault class)) fault took is = subst (λ (f : Option ClassId). HasTaken before calls f after) (sym is) took
heard-answer before after calls (Err Memory) fault took is = absurd is

pub heard-one : (before after : List (AnsweredCall AnalyzerCall)) (c : AnalyzerCall) (answer : Result (Unit {0}) ArtifactError) (fault : Option ClassId) → TakesCall before c answer after → IsCallbackAnswer answer fault → HasTaken before (c ∷ []) fault after
heard-one before after c answer fault took is = heard-answer before after (c ∷ []) answer fault (takes_one before after c answer took) is

-- nothing is told any more after a fault
pub heard-over : (fault : Option ClassId) (taken : List (AnsweredCall AnalyzerCall)) (calls : List AnalyzerCall) → is_some fault ≡ true → IsHearing fault taken calls (moment taken fault)
heard-over None taken calls e = let never : ⊥ = cc in absurd never
heard-over (Some class) taken calls e = refl

pub heard-next : (fault now : Option ClassId) (before after : List (AnsweredCall AnalyzerCall)) (calls : List AnalyzerCall) → is_some fault ≡ false → HasTaken before calls now after → IsHearing fault before calls (moment after now)
heard-next None now before after calls e took = took
heard-next (Some class) now before after calls e took = let never : ⊥ = cc in absurd never

-- a call, and more after it unless it was answered with a fault
pub call-more : TakenOneAfterAnother → (before between after : List (AnsweredCall AnalyzerCall)) (c : AnalyzerCall) (calls : List AnalyzerCall) (fault now : Option ClassId) → HasTaken before (c ∷ []) fault between → is_some fault ≡ false → HasTaken between calls now after → HasTaken before (c ∷ calls) now after
call-more law before between after c calls None now one e more = law before between after (c ∷ []) calls now one more
call-more law before between after c calls (Some class) now one e more = let never : ⊥ = cc in absurd never

pub call-over : NoneAfterAFault → (before after : List (AnsweredCall AnalyzerCall)) (c : AnalyzerCall) (calls : List AnalyzerCall) (fault : Option ClassId) → HasTaken before (c ∷ []) fault after → is_some fault ≡ true → HasTaken before (c ∷ calls) fault after
call-over law before after c calls None one e = let never : ⊥ = cc in absurd never
call-over law before after c calls (Some class) one e = law before after (c ∷ []) calls class one
