-- What a function returned is what a definition answers, unless memory ran out.
use Rattle.std.specs.Prelude.{◌≡◌, Result, Ok, Err}

-- One answer after another: the first fault ends them.
infixl 10 ◌>>=◌
abbrev pub ◌>>=◌ : {E A B : Type 0} → Result A E → (A → Result B E) → Result B E
(Ok x) >>= f = f x
(Err e) >>= f = Err e

-- what an error says: that memory ran out, a fault, or what no such call returns
pub data Cause (F : Type 0) : Type 0 where
  no_memory : Cause F
  of_fault : F → Cause F
  never : Cause F

-- the same for a call that takes no memory, so memory can't run out
abbrev pub with_memory : {F : Type 0} → Cause F → Cause F
with_memory no_memory = never
with_memory (of_fault f) = of_fault f
with_memory never = never

-- the answer has this fault, unless memory ran out
abbrev pub IsCause : {F Y : Type 0} → Cause F → Result Y F → Type 0
IsCause no_memory answer = Unit {0}
IsCause (of_fault f) answer = answer ≡ Err f
IsCause never answer = ⊥

-- what a function returned, seen by view, is this answer, unless memory ran out
abbrev pub Answers : {E F X Y : Type 0} → (E → Cause F) → (X → Y) → Result X E → Result Y F → Type 0
Answers cause view (Ok x) answer = answer ≡ Ok (view x)
Answers cause view (Err e) answer = IsCause (cause e) answer
