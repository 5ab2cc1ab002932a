-- Disjoint ranges within n records have at most n records together, and so at most n blocks are left.
use Rattle.std.proofs.Common.{◌≡◌, ℕ, zero, suc, ◌+◌, ◌-◌, ◌<◌, ◌≤◌, min, ◌⊎◌, inl, inr, List, [], ◌∷◌, slice_get, Some, refl, subst, arith}
use Rattle.jb_rules.specs.declared.row.Row.{Row}
use Rattle.jb_rules.specs.declared.row.RowState.{RowState}
use Rattle.jb_rules.specs.declared.row.RowState.TheVariants.{Waiting, Running, Finished, Failed}
use Rattle.jb_repo.specs.declared.events.Event.{Event}
use Rattle.jb_rules.specs.Sound.{IsSoundRow}
use Rattle.std.specs.Prelude.{sum, map}
use Rattle.jb_base.specs.declared.range.Range.{Range}
use Rattle.std.proofs.Common.{get_or, ap, length}
use Rattle.std.proofs.lemmas.List.{length-map}
use Rattle.std.proofs.lemmas.Option.{slice_get_within}
use Rattle.std.proofs.lemmas.List.Sums.{sum_by-cons}
use Rattle.jb_repo.specs.inside.LowerLaws.{LowerRowLaws}
use Rattle.jb_base.specs.Limits.{max_records}
use Rattle.jb_plan.specs.Ranges.{HaveNoneInCommon, AreDisjoint}
use Rattle.jb_rules.specs.Rows.{range_of, remaining_of}
use Rattle.jb_repo.specs.History.{own}
use Rattle.jb_repo.specs.Rows.{replayed_row, rows_from, remaining}

abbrev pub Apart : List Row → Type 0
Apart rows = (i k : ℕ) (r s : Row) → i < k → slice_get rows i ≡ Some r → slice_get rows k ≡ Some s → HaveNoneInCommon (range_of r) (range_of s)

-- the range at a place of the list
pub range_at : (rows : List Row) (i : ℕ) (r : Row) (d : Range) → slice_get rows i ≡ Some r → get_or (map range_of rows) i d ≡ range_of r
range_at [] i r d is = absurd cc
range_at (x ∷ rows) zero r d is = let e : x ≡ r = cc in ap range_of e
range_at (x ∷ rows) (suc i) r d is = range_at rows i r d is

pub apart_of : (rows : List Row) → AreDisjoint (map range_of rows) → Apart rows
apart_of rows disjoint i k r s lt a b =
    let within : k < length (map range_of rows) = let n = length-map rows range_of in let h = slice_get_within rows k s b in omega (arith, n, h) in
    let both = disjoint i k (range_of r) lt within in
    let half = subst (λ (x : Range). HaveNoneInCommon x (get_or (map range_of rows) k (range_of r))) (range_at rows i r (range_of r) a) both in
    subst (λ (x : Range). HaveNoneInCommon (range_of r) x) (range_at rows k s (range_of r) b) half

apart_tail : (r : Row) (rows : List Row) → Apart (r ∷ rows) → Apart rows
apart_tail r rows apart i k a b lt x y = apart (suc i) (suc k) a b (omega arith) x y

-- the records of a range below n
below : ℕ → Row → ℕ
below n r = min r.hi n - r.lo

abbrev all_below : ℕ → List Row → ℕ
all_below n [] = 0
all_below n (r ∷ rows) = below n r + all_below n rows

-- whether record n stands in the range
stands : ℕ → Row → ℕ
stands n r = min 1 (r.hi - n) - (r.lo - n)

abbrev all_stand : ℕ → List Row → ℕ
all_stand n [] = 0
all_stand n (r ∷ rows) = stands n r + all_stand n rows

below-more : (n : ℕ) (r : Row) → below (suc n) r ≡ below n r + stands n r
unfolding below stands
below-more n r = omega arith

all_below-more : (n : ℕ) (rows : List Row) → all_below (suc n) rows ≡ all_below n rows + all_stand n rows
all_below-more n [] = refl
all_below-more n (r ∷ rows) = omega (arith, below-more n r, all_below-more n rows)

stands_cases : (n : ℕ) (r : Row) → (stands n r ≡ 0) ⊎ ((stands n r ≡ 1) × (r.lo ≤ n) × (n < r.hi))
unfolding stands
stands_cases n r = grind arith

-- a record that stands in the first range stands in no other
none_stands : (n : ℕ) (rows : List Row) → ((k : ℕ) (s : Row) → slice_get rows k ≡ Some s → s.lo ≤ n → n < s.hi → ⊥) → all_stand n rows ≡ 0
none_stands n [] h = refl
none_stands n (s ∷ rows) h =
    elim (stands_cases n s) [
      | inl e ↦ omega (arith, e, none_stands n rows (λ k t o. h (suc k) t o))
      | inr w ↦ absurd (h 0 s refl w.1 w.2)
    ]

one_stands : (n : ℕ) (rows : List Row) → Apart rows → all_stand n rows ≤ 1
one_stands n [] apart = omega arith
one_stands n (r ∷ rows) apart =
    elim (stands_cases n r) [
      | inl e ↦ omega (arith, e, one_stands n rows (apart_tail r rows apart))
      | inr w ↦
          let z : all_stand n rows ≡ 0 = none_stands n rows (λ k s o lo hi. apart 0 (suc k) r s (omega arith) refl o n w.1 w.2 lo hi) in
          omega (arith, w.0, z)
    ]

all_below-zero : (rows : List Row) → all_below 0 rows ≤ 0
unfolding below
all_below-zero [] = omega arith
all_below-zero (r ∷ rows) = omega (arith, all_below-zero rows)

all_below-le : (n : ℕ) (rows : List Row) → Apart rows → all_below n rows ≤ n
all_below-le zero rows apart = all_below-zero rows
all_below-le (suc n) rows apart = omega (arith, all_below-more n rows, one_stands n rows apart, all_below-le n rows apart)

-- BLOCKS

remaining_of-le : LowerRowLaws → (c : ℕ) (row : Row) (state : RowState) → 1 ≤ c → IsSoundRow row → remaining_of c row state ≤ row.hi - row.lo
remaining_of-le laws c row Waiting some s =
    let few = laws.chunks.few row.at row.redo row.hi c s.placed.at_to s.placed.redo_to some in omega (arith, few, s.placed.at_from)
remaining_of-le laws c row (Running l) some s = omega arith
remaining_of-le laws c row Finished some s = omega arith
remaining_of-le laws c row Failed some s = omega arith

below-all : (r : Row) → r.hi ≤ max_records → r.hi - r.lo ≤ below max_records r
unfolding below
below-all r small = omega arith

remaining-below : LowerRowLaws → (c : ℕ) (past : List Event) (first : ℕ) (rows : List Row) → 1 ≤ c → ((i : ℕ) (r : Row) → slice_get rows i ≡ Some r → IsSoundRow (replayed_row c r (own (first + i) past))) → sum (remaining c (rows_from c past first rows)) ≤ all_below max_records rows
remaining-below laws c past first [] some sound = omega arith
remaining-below laws c past first (r ∷ rows) some sound =
    let z : first + 0 ≡ first = omega arith in
    let s : IsSoundRow (replayed_row c r (own first past)) = subst (λ (x : ℕ). IsSoundRow (replayed_row c r (own x past))) z (sound 0 r refl) in
    let head = remaining_of-le laws c (replayed_row c r (own first past)) (replayed_row c r (own first past)).state some s in
    let here : r.hi - r.lo ≤ below max_records r = below-all r s.placed.records in
    let tail = remaining-below laws c past (first + 1) rows some (λ i t o.
    let e : first + suc i ≡ first + 1 + i = omega arith in
    subst (λ (x : ℕ). IsSoundRow (replayed_row c t (own x past))) e (sound (suc i) t o)) in
    let one = sum_by-cons (λ (x : ℕ). x) (remaining_of c (replayed_row c r (own first past)) (replayed_row c r (own first past)).state) (remaining c (rows_from c past (first + 1) rows)) in
    omega (arith, one, head, here, tail)

-- no more blocks are left than records may stand in the ranges
pub remaining-small : LowerRowLaws → (c : ℕ) (past : List Event) (rows : List Row) → 1 ≤ c → AreDisjoint (map range_of rows) → ((i : ℕ) (r : Row) → slice_get rows i ≡ Some r → IsSoundRow (replayed_row c r (own i past))) → sum (remaining c (rows_from c past 0 rows)) ≤ max_records
remaining-small laws c past rows some disjoint sound =
    let a = remaining-below laws c past 0 rows some (λ i r o. let z : i ≡ 0 + i = omega arith in subst (λ (x : ℕ). IsSoundRow (replayed_row c r (own x past))) z (sound i r o)) in
    omega (arith, a, all_below-le max_records rows (apart_of rows disjoint))
