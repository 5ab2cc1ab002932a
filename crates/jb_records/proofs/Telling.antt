-- What is told of each partition, one after another.
use Rattle.std.proofs.Common.{◌≡◌, ℕ, ◌+◌, ◌≤◌, ◌++◌, Bool, true, false, cond, List, [], ◌∷◌, drop, length, map, take, Some, refl, ap, sym, ◌∙◌, arith}
use Rattle.std.specs.Prelude.{filter, slice_get}
use Rattle.std.proofs.lemmas.List.{append_assoc, drop-append-le, length-take-le, map-append, take_more}
use Rattle.std.proofs.lemmas.Option.{get_or_from_slice_get, slice_get_within}
use Rattle.jb_rules.specs.declared.row.Row.{Row}

-- one member more
pub one-more : {A : Type 0} (xs : List A) (i : ℕ) (x : A) → slice_get xs i ≡ Some x → take (i + 1) xs ≡ take i xs ++ x ∷ []
one-more xs i x at = take_more xs i x (slice_get_within xs i x at) ∙ ap (λ y. take i xs ++ y ∷ []) (get_or_from_slice_get xs i x x at)

pub written_before-more : (rows : List Row) (p : ℕ) (row : Row) (written_before now : List ℕ) → slice_get rows p ≡ Some row → written_before ≡ map (λ row. row.written) (take p rows) → now ≡ written_before ++ row.written ∷ []
    → now ≡ map (λ row. row.written) (take (p + 1) rows)
written_before-more rows p row written_before now at is made =
    made
    ∙ ap (λ ns. ns ++ row.written ∷ []) is
    ∙ sym (map-append (λ (r : Row). r.written) (take p rows) (row ∷ []))
    ∙ ap (map (λ (r : Row). r.written)) (sym (one-more rows p row at))

-- one result more, from an earlier one on
pub copied-more : (all : List (List ℕ)) (from i : ℕ) (x : List ℕ) (part now : List (List ℕ)) → from ≤ i → slice_get all i ≡ Some x → part ≡ drop from (take i all) → now ≡ part ++ x ∷ [] → now ≡ drop from (take (i + 1) all)
copied-more all from i x part now le at is made =
    let within = slice_get_within all i x at in
    let long : length (take i all) ≡ i = length-take-le i all (omega (arith, within)) in
    made
    ∙ ap (λ xs. xs ++ x ∷ []) is
    ∙ sym (drop-append-le from (take i all) (x ∷ []) (omega (arith, long, le)))
    ∙ ap (drop from) (sym (one-more all i x at))

-- one member more is kept, or not
kept-by : {A : Type 0} (b : Bool) (x : A) (rest : List A) → cond b (x ∷ rest) rest ≡ cond b (x ∷ []) [] ++ rest
kept-by true x rest = refl
kept-by false x rest = refl

pub parted-on : {A : Type 0} (p : A → Bool) (x : A) (rest left before now all : List A) → left ≡ x ∷ rest → now ≡ before ++ filter p (x ∷ []) → before ++ filter p left ≡ all → now ++ filter p rest ≡ all
parted-on p x rest left before now all first made is =
    ap (λ xs. xs ++ filter p rest) made
    ∙ append_assoc before (filter p (x ∷ [])) (filter p rest)
    ∙ ap (λ xs. before ++ xs) (sym (kept-by (p x) x (filter p rest)))
    ∙ ap (λ xs. before ++ filter p xs) (sym first)
    ∙ is
