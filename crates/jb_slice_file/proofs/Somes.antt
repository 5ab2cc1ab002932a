-- What is said of an answer that may be none.
use Rattle.std.proofs.Common.{arith, Option}
use Rattle.std.specs.Prelude.{IfSome}

pub some_from : {T : Type 0} (o : Option T) (P Q : T → Type 0) → ((x : T) → P x → Q x) → IfSome o P → IfSome o Q
some_from o P Q to p = grind arith

pub some_both : {T : Type 0} (o : Option T) (P Q : T → Type 0) → IfSome o P → IfSome o Q → IfSome o (λ x. P x × Q x)
some_both o P Q p q = grind arith
