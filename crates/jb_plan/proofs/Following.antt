-- The chunks that are left follow one another.
use Rattle.std.proofs.Common.{◌≡◌, ℕ, zero, suc, ◌+◌, ◌-◌, ◌*◌, ◌/◌, ◌≤◌, ◌<◌, Bool, true, false, List, [], ◌∷◌, ◌++◌, map, refl, sym, ap, ◌∙◌, subst, arith}
use Rattle.std.specs.Prelude.{max, min, nat_lt, nat_le, ◌==◌, filter, drop, unwrap_or, slice_get, Option, Some}
use Rattle.std.specs.List.{range_with_len}
use Rattle.std.proofs.lemmas.Bool.{ltb-true, ltb-false}
use Rattle.std.proofs.lemmas.Bool.Decides.{nat_tests}
use Rattle.std.proofs.Math.Nat.{suc-mul, zero-mul, one-mul, div-eq_of_lt, add-div_right}
use Rattle.jb_base.specs.declared.range.Range.{Range}
use Rattle.jb_plan.specs.Blocks.{single, singles, block, full_blocks, blocks, next_block, IsNext, ChunksFollow}
use Rattle.jb_plan.proofs.BlockLists.{begins_by, few_blocks, left_is, left-few}

-- of n numbers from a on those that pass a test of being below k
kept_by : (p : ℕ → Bool) (k a n : ℕ) (here : Bool) → nat_lt a k ≡ here → p a ≡ here → filter p (range_with_len (a + 1) n) ≡ range_with_len (a + 1) (min n (k - (a + 1))) → filter p (range_with_len a (suc n)) ≡ range_with_len a (min (suc n) (k - a))
kept_by p k a n true e same rest =
    let lt = ltb-true a k e in
    let more : min (suc n) (k - a) ≡ suc (min n (k - (a + 1))) = omega (arith, lt) in
    rw (same, rest, more) refl
kept_by p k a n false e same rest =
    let le = ltb-false a k e in
    let none : min (suc n) (k - a) ≡ 0 = omega (arith, le) in
    let none' : min n (k - (a + 1)) ≡ 0 = omega (arith, le) in
    rw (same, rest, none, none') refl

filter-below : (p : ℕ → Bool) (k : ℕ) → ((j : ℕ) → p j ≡ nat_lt j k) → (a n : ℕ) → filter p (range_with_len a n) ≡ range_with_len a (min n (k - a))
filter-below p k same a zero = let none : min 0 (k - a) ≡ 0 = omega arith in rw none refl
filter-below p k same a (suc n) = kept_by p k a n (nat_lt a k) refl (same a) (filter-below p k same (a + 1) n)

-- the blocks by their number
full_blocks-are : (s hi count : ℕ) → 1 ≤ count → full_blocks s hi count ≡ map (block s hi count) (range_with_len 0 ((hi - s + (count - 1)) / count))
full_blocks-are s hi count one =
    let number = (hi - s + (count - 1)) / count in
    let few = few_blocks (hi - s) count one in
    let all : min (hi - s) (number - 0) ≡ number = omega (arith, few) in
    ap (map (block s hi count)) (filter-below (λ j. nat_lt (s + j * count) hi) number (λ j. sym (begins_by (nat_lt (s + j * count) hi) s hi count j one refl)) 0 (hi - s))
    ∙ ap (λ n. map (block s hi count) (range_with_len 0 n)) all

map-shifted : (f g : ℕ → Range) → ((j : ℕ) → f (j + 1) ≡ g j) → (a n : ℕ) → map f (range_with_len (a + 1) n) ≡ map g (range_with_len a n)
map-shifted f g same a zero = refl
map-shifted f g same a (suc n) = rw (same a, map-shifted f g same (a + 1) n) refl

block-shifted : (s hi count j : ℕ) → block s hi count (j + 1) ≡ block (s + count) hi count j
block-shifted s hi count j =
    let here : suc j * count ≡ j * count + count = suc-mul j count in
    let there : suc (j + 1) * count ≡ (j + 1) * count + count = suc-mul (j + 1) count in
    let from : s + (j + 1) * count ≡ s + count + j * count = omega (arith, here) in
    let to : s + (j + 1 + 1) * count ≡ s + count + (j + 1) * count = omega (arith, there) in
    rw (from, to) refl

-- the number of blocks falls by one with each
number-falls : (fits : Bool) (at hi count : ℕ) → nat_le (at + count) hi ≡ fits → at < hi → 1 ≤ count → ((hi - at) + (count - 1)) / count ≡ suc (((hi - min hi (at + count)) + (count - 1)) / count)
number-falls true at hi count e lt one =
    let le : at + count ≤ hi = grind (arith, nat_tests) in
    let rest = (hi - min hi (at + count)) + (count - 1) in
    let same : (hi - at) + (count - 1) ≡ rest + count = omega (arith, le, lt, one) in
    let more = add-div_right rest {k = count} one in
    let swap : rest / count + 1 ≡ suc (rest / count) = omega arith in
    ap (λ n. n / count) same ∙ more ∙ swap
number-falls false at hi count e lt one =
    let gt : hi < at + count = grind (arith, nat_tests) in
    let same : (hi - at) + (count - 1) ≡ (hi - at - 1) + count = omega (arith, gt, lt, one) in
    let few : hi - at - 1 < count = omega (arith, gt, lt) in
    let last : (hi - min hi (at + count)) + (count - 1) < count = omega (arith, gt, one) in
    let none = div-eq_of_lt few in
    let end = div-eq_of_lt last in
    let more = add-div_right (hi - at - 1) {k = count} one in
    ap (λ n. n / count) same ∙ more ∙ omega (arith, none, end)

-- the first block, and those after it
later_by : (fits : Bool) (s hi count : ℕ) → nat_le (s + count) hi ≡ fits → s < hi → 1 ≤ count → map (block s hi count) (range_with_len 1 ((hi - min hi (s + count) + (count - 1)) / count)) ≡ full_blocks (min hi (s + count)) hi count
later_by true s hi count e lt one =
    let le : s + count ≤ hi = grind (arith, nat_tests) in
    let mid : min hi (s + count) ≡ s + count = omega (arith, le) in
    rw mid (map-shifted (block s hi count) (block (s + count) hi count) (block-shifted s hi count) 0 _ ∙ sym (full_blocks-are (s + count) hi count one))
later_by false s hi count e lt one =
    let gt : hi < s + count = grind (arith, nat_tests) in
    let mid : min hi (s + count) ≡ hi = omega (arith, gt) in
    let few : hi - hi + (count - 1) < count = omega (arith, one) in
    let none : (hi - hi + (count - 1)) / count ≡ 0 = div-eq_of_lt few in
    let nothing : hi - hi ≡ 0 = omega arith in
    rw mid (ap (λ n. map (block s hi count) (range_with_len 1 n)) none ∙ sym (full_blocks-are hi hi count one ∙ ap (λ n. map (block hi hi count) (range_with_len 0 n)) none))

block-first : (s hi count : ℕ) → ◌≡◌ {A = Range} (block s hi count 0) (record { lo = s; hi = min hi (s + count) })
block-first s hi count =
    let from : s + 0 * count ≡ s = omega (arith, zero-mul count) in
    let to : s + (0 + 1) * count ≡ s + count = omega (arith, one-mul count) in
    rw (from, to) refl

full_blocks-next : (s hi count : ℕ) → s < hi → 1 ≤ count → full_blocks s hi count ≡ record { lo = s; hi = min hi (s + count) } ∷ full_blocks (min hi (s + count)) hi count
full_blocks-next s hi count lt one =
    full_blocks-are s hi count one
    ∙ ap (λ n. map (block s hi count) (range_with_len 0 n)) (number-falls (nat_le (s + count) hi) s hi count refl lt one)
    ∙ ap (λ (r : Range). r ∷ map (block s hi count) (range_with_len 1 ((hi - min hi (s + count) + (count - 1)) / count))) (block-first s hi count)
    ∙ ap (λ (rs : List Range). record { lo = s; hi = min hi (s + count) } ∷ rs) (later_by (nat_le (s + count) hi) s hi count refl lt one)

-- the next block where it is a single record, and where it is a full one
pub next-single : (at redo hi count : ℕ) → at < redo → redo ≤ hi → IsNext at redo hi count (record { lo = at; hi = at + 1 })
unfolding blocks
next-single at redo hi count lt re =
    let more : redo - at ≡ suc (redo - (at + 1)) = omega (arith, lt) in
    let same : max at redo ≡ max (at + 1) redo = omega (arith, lt) in
    record {
      from = refl;
      some = omega arith;
      within = omega (arith, lt, re);
      others =
          ap (λ n. map single (range_with_len at n) ++ full_blocks (max at redo) hi count) more
          ∙ ap (λ m. single at ∷ (singles (at + 1) redo ++ full_blocks m hi count)) same;
    }

pub next-full : (at redo hi count : ℕ) → redo ≤ at → at < hi → 1 ≤ count → IsNext at redo hi count (record { lo = at; hi = min hi (at + count) })
unfolding blocks
next-full at redo hi count re lt one =
    let mid = min hi (at + count) in
    let none : redo - at ≡ 0 = omega (arith, re) in
    let none' : redo - mid ≡ 0 = omega (arith, re, lt) in
    let here : max at redo ≡ at = omega (arith, re) in
    let there : max mid redo ≡ mid = omega (arith, re, lt) in
    record {
      from = refl;
      some = omega (arith, lt, one);
      within = omega arith;
      others =
          ap (λ n. map single (range_with_len at n) ++ full_blocks (max at redo) hi count) none
          ∙ ap (λ m. full_blocks m hi count) here
          ∙ full_blocks-next at hi count lt one
          ∙ ap (λ m. record { lo = at; hi = mid } ∷ full_blocks m hi count) (sym there)
          ∙ ap (λ n. record { lo = at; hi = mid } ∷ (map single (range_with_len mid n) ++ full_blocks (max mid redo) hi count)) (sym none');
    }

-- a block that is next is the next one
pub is-next : (at redo hi count : ℕ) (b : Range) → IsNext at redo hi count b → next_block at redo hi count ≡ b
is-next at redo hi count b next = ap (λ (rs : List Range). unwrap_or (slice_get rs 0) (record { lo = at; hi = at })) next.others

next_by : (redone : Bool) (at redo hi count : ℕ) → nat_lt at redo ≡ redone → at < hi → redo ≤ hi → 1 ≤ count → IsNext at redo hi count (next_block at redo hi count)
next_by true at redo hi count e lt re one =
    let b = next-single at redo hi count (ltb-true at redo e) re in
    subst (IsNext at redo hi count) (sym (is-next at redo hi count _ b)) b
next_by false at redo hi count e lt re one =
    let b = next-full at redo hi count (ltb-false at redo e) lt one in
    subst (IsNext at redo hi count) (sym (is-next at redo hi count _ b)) b

none-left : (redo hi count : ℕ) → redo ≤ hi → blocks hi redo hi count ≡ []
unfolding blocks
none-left redo hi count re =
    let none : redo - hi ≡ 0 = omega (arith, re) in
    let past : hi - max hi redo ≡ 0 = omega arith in
    rw (none, past) refl

-- THE CHUNKS BEHIND ONE OF THE LIST

none-at : (j : ℕ) (b : Range) → ◌≡◌ {A = Option Range} (slice_get [] j) (Some b) → ⊥
none-at zero b e = cc
none-at (suc j) b e = cc

first-at : (a b : Range) (rs : List Range) → slice_get (a ∷ rs) 0 ≡ Some b → a ≡ b
first-at a b rs e = cc

drop-more : (j : ℕ) (a : Range) (rs : List Range) → drop (j + 1) rs ≡ drop (suc j + 1) (a ∷ rs)
drop-more j a rs = let more : suc j + 1 ≡ suc (j + 1) = omega arith in ap (λ n. drop n (a ∷ rs)) (sym more)

-- the rest behind chunk j, at a checkpoint that is the end of the range or not
rest_by : (ended : Bool) (j at redo hi count : ℕ) (b : Range) → (at == hi) ≡ ended → at ≤ hi → redo ≤ hi → 1 ≤ count → slice_get (blocks at redo hi count) j ≡ Some b → blocks b.hi redo hi count ≡ drop (j + 1) (blocks at redo hi count)
rest_by true j at redo hi count b e le re one here =
    let same : at ≡ hi = grind (arith, nat_tests) in
    let none : blocks at redo hi count ≡ [] = ap (λ a. blocks a redo hi count) same ∙ none-left redo hi count re in
    absurd (none-at j b (ap (λ (rs : List Range). slice_get rs j) (sym none) ∙ here))
rest_by false zero at redo hi count b e le re one here =
    let lt : at < hi = grind (arith, nat_tests) in
    let next = next_by (nat_lt at redo) at redo hi count refl lt re one in
    let same = first-at (next_block at redo hi count) b (blocks (next_block at redo hi count).hi redo hi count) (ap (λ (rs : List Range). slice_get rs 0) (sym next.others) ∙ here) in
    ap (λ (r : Range). blocks r.hi redo hi count) (sym same) ∙ ap (drop 1) (sym next.others)
rest_by false (suc j) at redo hi count b e le re one here =
    let lt : at < hi = grind (arith, nat_tests) in
    let next = next_by (nat_lt at redo) at redo hi count refl lt re one in
    let mid = (next_block at redo hi count).hi in
    let there : slice_get (blocks mid redo hi count) j ≡ Some b = ap (λ (rs : List Range). slice_get rs (suc j)) (sym next.others) ∙ here in
    rest_by (mid == hi) j mid redo hi count b refl next.within re one there
    ∙ drop-more j (next_block at redo hi count) (blocks mid redo hi count)
    ∙ ap (drop (suc j + 1)) (sym next.others)

pub chunks_follow : ChunksFollow
chunks_follow = record {
  next = λ at redo hi count lt re one. next_by (nat_lt at redo) at redo hi count refl lt re one;
  none = none-left;
  rest = λ at redo hi count j b le re one here. rest_by (at == hi) j at redo hi count b refl le re one here;
  few = λ at redo hi count le re one. rw (left_is at redo hi count one) (left-few at redo hi count le re one);
}
