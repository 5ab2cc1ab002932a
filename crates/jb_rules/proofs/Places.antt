-- A list of numbers, place by place.
use Rattle.std.proofs.Common.{◌≡◌, ℕ, ◌≤◌, List, map, length, take, get_or, refl, subst, ◌∙◌, arith}
use Rattle.std.specs.List.{range_with_len}
use Rattle.std.proofs.lemmas.List.{ext_get_or}
use Rattle.std.proofs.lemmas.List.FromFn.{get_or-map-range_with_len, length-map-range_with_len, take-map-range_with_len}
use Rattle.jb_rules.specs.Laws.{NumbersMakeRows}

abbrev places : List ℕ → ℕ → List ℕ
places xs n = map (λ k. get_or xs k 0) (range_with_len 0 n)

all-places : (xs : List ℕ) → places xs (length xs) ≡ xs
all-places xs =
    let read : ℕ → ℕ = λ k. get_or xs k 0 in
    let len = length-map-range_with_len read 0 (length xs) in
    ext_get_or 0 (places xs (length xs)) xs len (λ i lt. get_or-map-range_with_len read 0 (length xs) i i 0 (omega (arith, lt, len)) (omega arith))

-- fifteen numbers are those at the places 0 to 14
pub fifteen-places : (xs : List ℕ) → length xs ≡ 15 → places xs 15 ≡ xs
fifteen-places xs e = subst (λ n. places xs n ≡ xs) e (all-places xs)

front-places : (xs : List ℕ) → length xs ≤ 15 → take (length xs) (places xs 15) ≡ xs
front-places xs le = take-map-range_with_len (λ k. get_or xs k 0) 0 15 (length xs) le ∙ all-places xs

pub numbers-make-rows : NumbersMakeRows
numbers-make-rows = record { row = λ r. refl; numbers = λ ns state le. front-places ns le }
