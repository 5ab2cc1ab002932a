-- The list of blocks: its first member and its length as formulas.
use Rattle.std.proofs.Common.{◌≡◌, ℕ, zero, suc, ◌+◌, ◌-◌, ◌*◌, ◌/◌, ◌≤◌, Bool, true, false, ◌++◌, length, map, refl, sym, ◌∙◌, arith, length-append}
use Rattle.std.proofs.lemmas.List.{length-map}
use Rattle.std.proofs.lemmas.Nat.{div_below, le-div}
use Rattle.std.proofs.Math.Nat.{suc-mul, one-mul, zero-mul, le-mul_of_pos_right}
use Rattle.std.specs.Prelude.{max, min, nat_lt, ◌==◌, slice_get, filter}
use Rattle.std.specs.List.{range_with_len}
use Rattle.std.proofs.lemmas.List.FromFn.{length-range_with_len}
use Rattle.std.proofs.lemmas.Bool.{lt-ltb, le-ltb, ltb-true, ltb-false}
use Rattle.std.proofs.lemmas.Bool.Decides.{nat_tests}
use Rattle.jb_plan.specs.Blocks.{single, singles, block, full_blocks, blocks, left, first_block, blocks_left}

-- how many of n numbers from a on pass a test that the numbers below k pass
below_step : (p : ℕ → Bool) (k a n : ℕ) (here : Bool) → nat_lt a k ≡ here → p a ≡ here → length (filter p (range_with_len (a + 1) n)) ≡ min n (k - (a + 1)) → length (filter p (range_with_len a (suc n))) ≡ min (suc n) (k - a)
below_step p k a n true e same rest = let lt = ltb-true a k e in rw (same, rest) (omega arith)
below_step p k a n false e same rest = let le = ltb-false a k e in rw (same, rest) (omega arith)

length-below : (p : ℕ → Bool) (k : ℕ) → ((j : ℕ) → p j ≡ nat_lt j k) → (a n : ℕ) → length (filter p (range_with_len a n)) ≡ min n (k - a)
length-below p k same a zero = omega arith
length-below p k same a (suc n) = below_step p k a n (nat_lt a k) refl (same a) (length-below p k same (a + 1) n)

-- block j begins below the end exactly where j is below the number of blocks
pub begins_by : (here : Bool) (s hi count j : ℕ) → 1 ≤ count → nat_lt (s + j * count) hi ≡ here → nat_lt j ((hi - s + (count - 1)) / count) ≡ here
begins_by true s hi count j one e =
    let lt = ltb-true (s + j * count) hi e in
    let product : suc j * count ≡ j * count + count = suc-mul j count in
    let below = le-div (suc j) (hi - s + (count - 1)) count one (omega (arith, product, lt, one)) in
    lt-ltb j _ below
begins_by false s hi count j one e =
    let le = ltb-false (s + j * count) hi e in
    let product : suc j * count ≡ j * count + count = suc-mul j count in
    let above = div_below (hi - s + (count - 1)) count (suc j) one (omega (arith, product, le, one)) in
    le-ltb j _ (omega (arith, above))

-- no more blocks than records
pub few_blocks : (n count : ℕ) → 1 ≤ count → (n + (count - 1)) / count ≤ n
few_blocks n count one =
    let product : suc n * count ≡ n * count + count = suc-mul n count in
    let wide : n ≤ n * count = le-mul_of_pos_right n one in
    let below = div_below (n + (count - 1)) count (suc n) one (omega (arith, product, wide, one)) in
    omega (arith, below)

length-full_blocks : (s hi count : ℕ) → 1 ≤ count → length (full_blocks s hi count) ≡ (hi - s + (count - 1)) / count
length-full_blocks s hi count one =
    let same = length-below (λ j. nat_lt (s + j * count) hi) ((hi - s + (count - 1)) / count) (λ j. sym (begins_by (nat_lt (s + j * count) hi) s hi count j one refl)) 0 (hi - s) in
    let few = few_blocks (hi - s) count one in
    length-map (filter (λ j. nat_lt (s + j * count) hi) (range_with_len 0 (hi - s))) (block s hi count) ∙ same ∙ omega (arith, few)

-- the number of blocks
pub left_is : (at redo hi count : ℕ) → 1 ≤ count → left at redo hi count ≡ blocks_left at redo hi count
unfolding blocks
left_is at redo hi count one =
    length-append (singles at redo) (full_blocks (max at redo) hi count)
    ∙ rw (length-map (range_with_len at (redo - at)) single, length-range_with_len at (redo - at), length-full_blocks (max at redo) hi count one) refl

-- no more blocks are left than records
pub left-few : (at redo hi count : ℕ) → at ≤ hi → redo ≤ hi → 1 ≤ count → blocks_left at redo hi count ≤ hi - at
left-few at redo hi count le re one = let few = few_blocks (hi - max at redo) count one in omega (arith, few)

-- the first block, where n single records and m numbers of further blocks are left
first_by : (n m at redo hi count : ℕ) → redo - at ≡ n → hi - max at redo ≡ m → at ≤ hi → redo ≤ hi → slice_get (map single (range_with_len at n) ++ map (block (max at redo) hi count) (filter (λ j. nat_lt (max at redo + j * count) hi) (range_with_len 0 m))) 0 ≡ first_block at redo hi count
first_by (suc n) m at redo hi count en em le re =
    let some : (at == hi) ≡ false = grind (arith, nat_tests) in
    let below : nat_lt at redo ≡ true = grind (arith, nat_tests) in
    rw (some, below) refl
first_by zero zero at redo hi count en em le re =
    let none : (at == hi) ≡ true = grind (arith, nat_tests) in
    rw none refl
first_by zero (suc m) at redo hi count en em le re =
    let none : max at redo + 0 * count ≡ at = omega (arith, zero-mul count) in
    let next : max at redo + (0 + 1) * count ≡ at + count = omega (arith, zero-mul count, one-mul count) in
    let begins : nat_lt at hi ≡ true = grind (arith, nat_tests) in
    let some : (at == hi) ≡ false = grind (arith, nat_tests) in
    let past : nat_lt at redo ≡ false = grind (arith, nat_tests) in
    rw (none, begins, some, past, none, next) refl

pub first_is : (at redo hi count : ℕ) → at ≤ hi → redo ≤ hi → slice_get (blocks at redo hi count) 0 ≡ first_block at redo hi count
unfolding blocks
first_is at redo hi count le re = first_by (redo - at) (hi - max at redo) at redo hi count refl refl le re
