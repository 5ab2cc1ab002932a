-- What holds of an answer, and of an error, by which it is.
use Rattle.std.proofs.Common.{◌≡◌, subst, Result, Ok, Err, IfOk, IfErr}

pub ok-of : {A B : Type 0} (P : A → Type 0) (r : Result A B) (a : A) → r ≡ Ok a → IfOk r P → P a
ok-of {A} {B} P r a is p = subst (λ (x : Result A B). IfOk x P) is p

pub err-of : {A B : Type 0} (P : B → Type 0) (r : Result A B) (b : B) → r ≡ Err b → IfErr r P → P b
err-of {A} {B} P r b is p = subst (λ (x : Result A B). IfErr x P) is p

-- what three clauses of an answer come to
pub ok-all : {A B : Type 0} {P Q R S : A → Type 0} (r : Result A B) → IfOk r P → IfOk r Q → IfOk r R → ((a : A) → P a → Q a → R a → S a) → IfOk r S
ok-all (Ok a) p q r s = s a p q r
ok-all (Err b) p q r s = tt
