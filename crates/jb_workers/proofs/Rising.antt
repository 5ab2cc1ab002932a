use Rattle.std.proofs.Common.{◌≡◌, ◌≤◌, ◌<◌, ◌-◌, ℕ, List, get_or, length, sym, ◌∙◌, subst, arith}
use Rattle.std.proofs.lemmas.Option.{slice_get-get_or, get_or_from_slice_get}
use Rattle.std.specs.List.Sorted.{IsNonDecreasingBy}

-- in a list that rises, a member is no higher than the next one
pub next_rises : {X : Type 0} (n : X → ℕ) (xs : List X) (i : ℕ) (a b : X) → IsNonDecreasingBy n xs → 1 ≤ i → i < length xs → a ≡ get_or xs (i - 1) a → b ≡ get_or xs i b → n a ≤ n b
next_rises n xs i a b rises some lt left right =
    let same : get_or xs i a ≡ b = get_or_from_slice_get xs i _ a (slice_get-get_or xs i b lt) ∙ sym right in
    let le = rises (i - 1) i a (omega (arith, some)) lt in
    subst (λ y. n a ≤ n y) same (subst (λ x. n x ≤ n (get_or xs i a)) (sym left) le)
