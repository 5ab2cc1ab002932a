-- Shares, one after another.
use Rattle.std.proofs.Common.{◌≡◌, ℕ, ◌+◌, ◌-◌, ◌≤◌, ◌++◌, true, List, [], ◌∷◌, length, get_or, Some, refl, ap, sym, subst, ◌∙◌, arith}
use Rattle.std.proofs.lemmas.Bool.{ltb-true}
use Rattle.std.proofs.lemmas.Grind.{flat_map-append}
use Rattle.std.proofs.Math.Seq.{take-add}
use Rattle.std.proofs.lemmas.List.{append-nil, length-drop, length-take-le, take_more}
use Rattle.std.proofs.lemmas.Option.{get_or_from_slice_get, slice_get_read, slice_get_within}
use Rattle.std.specs.Prelude.{drop, nat_lt, slice_get, take}
use Rattle.jb_rules.specs.declared.row.Row.{Row}
use Rattle.jb_records.specs.PartitionResults.{AreNumbered, joined}

-- what stands there
pub found : {A : Type 0} (xs : List A) (i : ℕ) (x : A) → true ≡ nat_lt i (length xs) → x ≡ get_or xs i x → slice_get xs i ≡ Some x
found xs i x within is = slice_get_read xs (length xs) i x refl (ltb-true i (length xs) (sym within)) is

numbered-one : (rows : List Row) (partition_results : List (List (List ℕ))) (row : Row) (share : List (List ℕ)) → AreNumbered rows partition_results → length share ≡ row.written → AreNumbered (rows ++ row ∷ []) (partition_results ++ share ∷ [])
numbered-one [] [] row share are is = (is, tt)
numbered-one [] (x ∷ xs) row share are is = absurd are
numbered-one (r ∷ rs) [] row share are is = absurd are
numbered-one (r ∷ rs) (x ∷ xs) row share are is = (are.0, numbered-one rs xs row share are.1 is)

-- one share more
pub numbered-more : (rows : List Row) (p : ℕ) (row : Row) (partition_results now : List (List (List ℕ))) (share : List (List ℕ)) → Some row ≡ slice_get rows p → length share ≡ row.written
    → now ≡ partition_results ++ share ∷ [] → AreNumbered (take p rows) partition_results → AreNumbered (take (p + 1) rows) now
numbered-more rows p row partition_results now share at is made are =
    let here : get_or rows p row ≡ row = get_or_from_slice_get rows p row row (sym at) in
    let longer : take (p + 1) rows ≡ take p rows ++ row ∷ [] = take_more rows p row (slice_get_within rows p row (sym at)) ∙ ap (λ r. take p rows ++ r ∷ []) here in
    subst (λ (rs : List Row). AreNumbered rs now) (sym longer) (subst (AreNumbered (take p rows ++ row ∷ [])) (sym made) (numbered-one (take p rows) partition_results row share are is))

-- and joined, the shares are the results before a later place
pub joined-on : (partition_results now : List (List (List ℕ))) (share earlier : List (List ℕ)) (place written : ℕ) → now ≡ partition_results ++ share ∷ [] → share ≡ take (place + written - place) (drop place earlier)
    → joined partition_results ≡ take place earlier → joined now ≡ take (place + written) earlier
joined-on partition_results now share earlier place written made is before =
    let e : place + written - place ≡ written = omega arith in
    ap joined made
    ∙ flat_map-append (λ s. s) partition_results (share ∷ [])
    ∙ (λ i. before i ++ append-nil share i)
    ∙ ap (λ l. take place earlier ++ l) (is ∙ ap (λ n. take n (drop place earlier)) e)
    ∙ sym (take-add place written earlier)

pub part-length : (earlier : List (List ℕ)) (place written : ℕ) → place + written ≤ length earlier → length (take (place + written - place) (drop place earlier)) ≡ written
part-length earlier place written fits =
    let e : place + written - place ≡ written = omega arith in
    let rest : written ≤ length (drop place earlier) = simp length-drop (omega (arith, fits)) in
    ap (λ n. length (take n (drop place earlier))) e ∙ length-take-le written (drop place earlier) rest
