-- What one answer after another has.
use Rattle.std.proofs.Common.{◌≡◌, Ok, Err, Result, IfOk, subst}
use Rattle.std.specs.Prelude.{⊤}
use Rattle.jb_base.specs.Causes.{◌>>=◌}

-- whatever was answered
anything : {E A : Type 0} (r : Result A E) → IfOk r (λ _. ⊤)
anything (Ok x) = tt
anything (Err e) = tt

-- the second answer has what each of the first one's values leads to
pub followed : {E A B : Type 0} (P : A → Type 0) (Q : B → Type 0) (r : Result A E) (f : A → Result B E) → IfOk r P → ((x : A) → P x → IfOk (f x) Q) → IfOk (r >>= f) Q
followed P Q (Ok x) f known go_on = go_on x known
followed P Q (Err e) f known go_on = tt

pub next : {E A B : Type 0} (Q : B → Type 0) (r : Result A E) (f : A → Result B E) → ((x : A) → IfOk (f x) Q) → IfOk (r >>= f) Q
next Q r f go_on = followed (λ _. ⊤) Q r f (anything r) (λ x _. go_on x)

-- a value that was answered has what all such values have
pub answer-has : {E A : Type 0} (Q : A → Type 0) (r : Result A E) (x : A) → IfOk r Q → r ≡ Ok x → Q x
answer-has {E = E} {A = A} Q r x known is = subst (λ (answer : Result A E). IfOk answer Q) is known
