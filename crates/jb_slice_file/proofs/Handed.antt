-- What is known of an answer that an early end hands on.
use Rattle.std.proofs.Common.{arith, ◌≡◌, Result, Ok, IsErrAnd, IfErr, IfOk, OnErr, OnOk}

-- an error that `?` hands on as it is named
pub handed_on : {T E : Type 0} (r : Result T E) (e : E) (P : E → Type 0) → IsErrAnd r (λ one. one ≡ e) → P e → IfErr r P
handed_on r e P told holds = grind arith

-- what holds whatever was answered
pub on_ok : {T E : Type 0} (r : Result T E) (P : Type 0) → P → OnOk r P
on_ok r P holds = grind arith

pub on_err : {T E : Type 0} (r : Result T E) (P : Type 0) → P → OnErr r P
on_err r P holds = grind arith

-- what holds of each value that may be answered
pub each_ok : {T E : Type 0} (r : Result T E) (P : T → Type 0) → ((x : T) → r ≡ Ok x → P x) → IfOk r P
each_ok r P holds = grind arith
