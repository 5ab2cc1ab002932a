-- What holds of each row, row by row.
use Rattle.std.proofs.Common.{◌≡◌, ℕ, ◌+◌, ◌<◌, inl, inr, List, get_or, slice_get, Some, subst, arith}
use Rattle.std.proofs.lemmas.Bool.{cases_eq}
use Rattle.std.proofs.lemmas.Option.{get_or_from_slice_get}
use Rattle.jb_rules.specs.declared.row.Row.{Row}

-- the row at a place of the list
pub row_is : (rows : List Row) (i : ℕ) (d r : Row) → slice_get rows i ≡ Some r → get_or rows i d ≡ r
row_is rows i d r is = get_or_from_slice_get rows i r d is

pub each_more : (P : Row → Type 0) (rows : List Row) (i : ℕ) (d : Row) → ((k : ℕ) (r : Row) → k < i → slice_get rows k ≡ Some r → P r) → P (get_or rows i d) → (k : ℕ) (r : Row) → k < i + 1 → slice_get rows k ≡ Some r → P r
each_more P rows i d before here k r lt is =
    elim (cases_eq k i) [
      | inl same ↦ subst P (row_is rows i d r (subst (λ (x : ℕ). slice_get rows x ≡ Some r) same is)) here
      | inr other ↦ before k r (omega (arith, lt, other)) is
    ]
