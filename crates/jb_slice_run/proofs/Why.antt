-- Why a call has no answer, by what it called: memory, or another reason.
use Rattle.std.{proofs.Common.{◌≡◌, ◌⊎◌, inl, inr, Result}, proofs.lemmas.Result.{IfErr-weaker}, specs.Result.{IfErr, IsErrAnd}}
use Rattle.jb_slice_file.proofs.Handed.{handed_on}
use Rattle.jb_slice_run.specs.declared.error.SliceError.{SliceError, TheVariants.{Memory}}

pub why_not : (e : SliceError) {other : SliceError} {P Q : Type 0} → (P → Q) → (e ≡ Memory) ⊎ (e ≡ other) × P → (e ≡ Memory) ⊎ (e ≡ other) × Q
why_not e to (inl memory) = inl memory
why_not e to (inr why) = inr (why.0, to why.1)

-- and the same at a call of whose answer the error is handed on
pub why_on : {T : Type 0} (r : Result T SliceError) (e : SliceError) {other : SliceError} {P Q : Type 0} → IsErrAnd r (λ one. one ≡ e) → (P → Q) → (e ≡ Memory) ⊎ (e ≡ other) × P
    → IfErr r (λ one. (one ≡ Memory) ⊎ (one ≡ other) × Q)
why_on r e on to why = handed_on r e _ on (why_not e to why)

pub why_so : {T : Type 0} (r : Result T SliceError) (other : SliceError) {P Q : Type 0} → (P → Q) → IfErr r (λ e. (e ≡ Memory) ⊎ (e ≡ other) × P) → IfErr r (λ e. (e ≡ Memory) ⊎ (e ≡ other) × Q)
why_so r other to why = IfErr-weaker r _ _ (λ e. why_not e to) why
