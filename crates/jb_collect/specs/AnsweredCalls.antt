-- Calls that an object took, and what it answered: all were answered well, or the last with a fault.
use Rattle.std.specs.Prelude.{◌≡◌, Option, Some, None, MatchOption, Result, Ok, Err, List, [], ◌∷◌, ◌++◌, drop, length, map}
use Rattle.jb_base.specs.declared.class.ClassId.{ClassId}
use Rattle.jb_base.specs.declared.artifact_error.ArtifactError.{ArtifactError}
use Rattle.jb_base.specs.declared.artifact_error.ArtifactError.TheVariants.{Fault, Memory}

-- a call that was taken, and the fault with which it was answered, if it was
pub record AnsweredCall (C : Type 0) : Type 0 where
  pub call : C
  pub fault : Option ClassId

-- answered well, and with a fault
abbrev pub well : {C : Type 0} → C → AnsweredCall C
well call = record { call = call; fault = None }

abbrev pub faulted : {C : Type 0} → C → ClassId → AnsweredCall C
faulted call class = record { call = call; fault = Some class }

-- the calls alone
abbrev pub calls_of : {C : Type 0} → List (AnsweredCall C) → List C
calls_of taken = map (λ t. t.call) taken

-- the call was taken, and answered so; one that is answered with Memory isn't, and changes nothing
abbrev pub TakesCall : {C : Type 0} → (before : List (AnsweredCall C)) → C → Result (Unit {0}) ArtifactError → (after : List (AnsweredCall C)) → Type 0
TakesCall before call (Ok done) after = after ≡ before ++ well call ∷ []
TakesCall before call (Err (Fault class)) after = after ≡ before ++ faulted call class ∷ []
TakesCall before call (Err Memory) after = after ≡ before

-- the calls were taken in this order up to the first that was answered with a fault, and none after it; this is the fault,
-- if there was one
abbrev pub AreTaken : {C : Type 0} → List C → Option ClassId → List (AnsweredCall C) → Type 0
AreTaken [] fault [] = fault ≡ None
AreTaken [] fault (t ∷ ts) = ⊥
AreTaken (c ∷ cs) fault [] = ⊥
AreTaken (c ∷ cs) fault (t ∷ ts) =
    (t.call ≡ c) × MatchOption t.fault (AreTaken cs fault ts) (λ class. (fault ≡ Some class) × (ts ≡ []))

-- the calls since then; what was there before stays
abbrev pub since : {C : Type 0} → (before after : List (AnsweredCall C)) → List (AnsweredCall C)
since before after = drop (length before) after

abbrev pub Grew : {C : Type 0} → (before after : List (AnsweredCall C)) → Type 0
Grew before after = after ≡ before ++ since before after

-- from one moment to another these calls were taken so
pub record HasTaken {C : Type 0} (before : List (AnsweredCall C)) (calls : List C) (fault : Option ClassId) (after : List (AnsweredCall C)) : Type 0 where
  pub grown : Grew before after
  pub taken : AreTaken calls fault (since before after)

-- some of these calls, the first ones, were taken and answered well, and the next one wasn't taken
pub record HasTakenSome {C : Type 0} (before : List (AnsweredCall C)) (calls : List C) (after : List (AnsweredCall C)) : Type 0 where
  pub first : List C
  pub next : C
  pub rest : List C
  pub calls_are : calls ≡ first ++ next ∷ rest
  pub taken : HasTaken before first None after

-- The calls were taken one after another, and the answer is one of three. `Ok`: all were answered well. A fault: that of the
-- first that wasn't, which was the last to be taken. Out of memory: a call found none, and all before it were answered well.
abbrev pub TakesCalls : {C : Type 0} → (before : List (AnsweredCall C)) → List C → Result (Unit {0}) ArtifactError → (after : List (AnsweredCall C)) → Type 0
TakesCalls before calls (Ok done) after = HasTaken before calls None after
TakesCalls before calls (Err (Fault class)) after = HasTaken before calls (Some class) after
TakesCalls before calls (Err Memory) after = HasTakenSome before calls after
