-- The first row that doesn't fit, by tests.
use Rattle.std.proofs.Common.{◌+◌, ◌≡◌, ℕ, ◌≤◌, ◌<◌, ◌⊎◌, inl, inr, Bool, true, false, cond, not, max, min, refl, sym, ap, ◌∙◌, subst, arith, List, [], ◌∷◌, take, length, get_or, slice_get, Some, None, Option, Ok, Err, Result}
use Rattle.std.specs.Prelude.{nat_lt}
use Rattle.std.specs.List.{list_any, enumerate_from, prefix_len}
use Rattle.std.proofs.lemmas.Bool.{cases_eq, not-false, not-true, or_cases, or_parts}
use Rattle.std.proofs.lemmas.Bool.Decides.{nat_tests}
use Rattle.std.proofs.lemmas.List.{get_or_default, get_or-take, length-take}
use Rattle.std.proofs.lemmas.List.Folds.{list_any_at, Any-from_list_any}
use Rattle.std.proofs.lemmas.List.FromFn.{length-enumerate_from, get_or-enumerate_from}
use Rattle.std.proofs.lemmas.List.Sums.{prefix_len_is, prefix_len_passes, prefix_len_stops}
use Rattle.std.proofs.lemmas.Option.{get_or_from_slice_get, slice_get-get_or, slice_get_within}
use Rattle.serde_json.specs.Data.{Data}
use Rattle.jb_base.specs.declared.range.Range.{Range}
use Rattle.jb_plan.specs.Ranges.{HaveNoneInCommon, do_overlap}
use Rattle.jb_plan.proofs.NoFaults.{apart}
use Rattle.jb_rules.specs.declared.row.Row.{Row}
use Rattle.jb_rules.specs.Sound.{IsSoundRow}
use Rattle.jb_rules.specs.Laws.{RowsAreTested}
use Rattle.jb_rules.specs.RowTest.{is_sound}
use Rattle.jb_rules.specs.Rows.{range_of}
use Rattle.jb_saved.specs.declared.place.SavedPlace.{SavedPlace}
use Rattle.jb_saved.specs.declared.place.SavedPlace.TheVariants.{Shape, Version}
use Rattle.jb_saved.specs.SavedRows.{SavedRows, IsSaved}
use Rattle.jb_saved.specs.Laws.{IsSavedTree}
use Rattle.jb_saved.specs.SavedTree.{is_known, saved_tree}
use Rattle.jb_saved.specs.SavedForm.{saved_form_at, form_by, saved_of_tree, saved_shaped, version_of}
use Rattle.jb_saved.specs.Answers.{IsApartFromEarlier, IsFitRow, AllFit, IsFirstUnfit, IsSavedAnswer}
use Rattle.jb_saved.specs.Reading.{is_unfit, first_unfit, checked_by, checked_rows, saved_at, answer_of}
use Rattle.jb_saved.proofs.RoundTrip.{one-answer, answer-back, written-back}
use Rattle.jb_saved.proofs.RowByRow.{past_end, some-row}

overlapping : (r s : Range) → do_overlap r s ≡ true → HaveNoneInCommon r s → ⊥
overlapping r s e disjoint =
    let lt : max r.lo s.lo < min r.hi s.hi = grind (arith, nat_tests) in
    disjoint (max r.lo s.lo) (omega arith) (omega (arith, lt)) (omega arith) (omega (arith, lt))

abbrev overlaps : Row → Row → Bool
overlaps r s = do_overlap (range_of s) (range_of r)

-- no earlier row passes a test that none passes
each-fails : (p : Row → Bool) (rows : List Row) (i k : ℕ) (s : Row) (b : Bool) → p s ≡ b → list_any p (take i rows) ≡ false → k < i → slice_get rows k ≡ Some s → b ≡ false
each-fails p rows i k s false e none lt is = refl
each-fails p rows i k s true e none lt is =
    let within = slice_get_within rows k s is in
    let len = length-take i rows in
    let here = get_or-take i rows k s lt ∙ get_or_from_slice_get rows k s s is in
    let found = list_any_at p (take i rows) k s (omega (arith, lt, within, len)) (ap p here ∙ e) in
    absurd (let no : true ≡ false = sym found ∙ none in cc)

fits-from : RowsAreTested → (rows : List Row) (i : ℕ) (r : Row) → is_unfit (take i rows) r ≡ false → IsSoundRow r × IsApartFromEarlier rows i r
fits-from law rows i r e = (
  (law r).0 (not-false (is_sound r) (or_parts (not (is_sound r)) (list_any (overlaps r) (take i rows)) e).0),
  λ k s lt is. apart (range_of s) (range_of r) (each-fails (overlaps r) rows i k s (overlaps r s) refl (or_parts (not (is_sound r)) (list_any (overlaps r) (take i rows)) e).1 lt is),
)

unfit-to : RowsAreTested → (rows : List Row) (i : ℕ) (r : Row) → is_unfit (take i rows) r ≡ true → IsSoundRow r → IsApartFromEarlier rows i r → ⊥
unfit-to law rows i r e sound earlier =
    elim (or_cases (not (is_sound r)) (list_any (overlaps r) (take i rows)) e) [
      | inl bad ↦ let good = ap not ((law r).1 sound) in let no : true ≡ false = sym bad ∙ good in cc
      | inr any ↦
          let found = Any-from_list_any (overlaps r) (take i rows) any in
          let k = found.0 in
          let s = found.1 in
          let len = length-take i rows in
          let lt : k < i = omega (arith, found.2, len) in
          let within : k < length rows = omega (arith, found.2, len) in
          let is : slice_get rows k ≡ Some s = slice_get-get_or rows k s within ∙ ap Some (sym (get_or-take i rows k s lt) ∙ found.3) in
          overlapping (range_of s) (range_of r) found.4 (earlier k s lt is)
    ]

-- ---- the walk over the rows

abbrev fit : List Row → ℕ × Row → Bool
fit rows p = not (is_unfit (take p.0 rows) p.1)

abbrev passed : List Row → ℕ
passed rows = prefix_len (fit rows) (enumerate_from 0 rows)

numbered : (rows : List Row) (i : ℕ) (r : Row) → i < length rows → get_or (enumerate_from 0 rows) i (0, r) ≡ (i, get_or rows i r)
numbered rows i r lt = get_or-enumerate_from 0 rows i (0, r) lt ∙ ap (λ (n : ℕ). (n, get_or rows i r)) (omega arith)

fits-before : RowsAreTested → (rows : List Row) (i : ℕ) → i < passed rows → i < length rows → IsFitRow rows i
fits-before law rows i lt within r is =
    let pair = numbered rows i r within ∙ ap (λ (x : Row). (i, x)) (get_or_from_slice_get rows i r r is) in
    let passes = prefix_len_passes (fit rows) (enumerate_from 0 rows) i (0, r) lt in
    fits-from law rows i r (not-true (is_unfit (take i rows) r) (subst (λ (x : ℕ × Row). fit rows x ≡ true) pair passes))

unfit-there : RowsAreTested → (rows : List Row) (d : Row) → passed rows < length rows → IsFitRow rows (passed rows) → ⊥
unfit-there law rows d lt fits =
    let n = passed rows in
    let len = length-enumerate_from 0 rows in
    let stops = prefix_len_stops (fit rows) (enumerate_from 0 rows) (0, d) (omega (arith, lt, len)) in
    let there = subst (λ (x : ℕ × Row). fit rows x ≡ false) (numbered rows n d lt) stops in
    let good = fits (get_or rows n d) (slice_get-get_or rows n d lt) in
    unfit-to law rows n (get_or rows n d) (not-false (is_unfit (take n rows) (get_or rows n d)) there) good.0 good.1

first-of : RowsAreTested → (rows : List Row) → passed rows < length rows → IsFirstUnfit rows (passed rows)
first-of law rows lt = record {
  here = lt;
  earlier = λ k below. fits-before law rows k below (omega (arith, below, lt));
  unfit = unfit-there law rows (some-row rows (passed rows) lt) lt;
}

answer-by : RowsAreTested → (d : Data) (s : SavedRows) (b : Bool) → nat_lt (passed s.rows) (length (enumerate_from 0 s.rows)) ≡ b → saved_form_at d ≡ Ok s → IsSavedAnswer (Some d) (checked_by (cond b (Some (passed s.rows)) None) s)
answer-by law d s true e form =
    let len = length-enumerate_from 0 s.rows in
    let lt : passed s.rows < length (enumerate_from 0 s.rows) = grind (arith, nat_tests) in
    (s, form, first-of law s.rows (omega (arith, lt, len)))
answer-by law d s false e form =
    let len = length-enumerate_from 0 s.rows in
    let le : length (enumerate_from 0 s.rows) ≤ passed s.rows = grind (arith, nat_tests) in
    (form, λ i lt. fits-before law s.rows i (omega (arith, lt, le, len)) lt)

answer-ok : RowsAreTested → (d : Data) (s : SavedRows) → saved_form_at d ≡ Ok s → IsSavedAnswer (Some d) (checked_by (first_unfit s.rows) s)
unfolding first_unfit
answer-ok law d s form = answer-by law d s (nat_lt (passed s.rows) (length (enumerate_from 0 s.rows))) refl form

-- a fault of form is Shape or Version
shaped-err : (o : Option SavedRows) (p : SavedPlace) → saved_shaped o ≡ Err p → p ≡ Shape
shaped-err None p e = cc
shaped-err (Some s) p e = cc

form-by : (b : Bool) (o : Option SavedRows) (p : SavedPlace) → cond b (saved_shaped o) (Err Version) ≡ Err p → (p ≡ Shape) ⊎ (p ≡ Version)
form-by true o p e = inl (shaped-err o p e)
form-by false o p e = inr cc

form-err : (v : Option ℕ) (d : Data) (p : SavedPlace) → form_by v d ≡ Err p → (p ≡ Shape) ⊎ (p ≡ Version)
form-err None d p e = inl cc
form-err (Some n) d p e = form-by (is_known n) (saved_of_tree n d) p e

form-place : (d : Data) (p : SavedPlace) → saved_form_at d ≡ Err p → (p ≡ Shape) ⊎ (p ≡ Version)
unfolding saved_form_at
form-place d p e = form-err (version_of d) d p e

answer-err : (d : Data) (p : SavedPlace) → saved_form_at d ≡ Err p → IsSavedAnswer (Some d) (Err p)
answer-err d p e =
    elim (form-place d p e) [
      | inl is ↦ subst (λ (q : SavedPlace). IsSavedAnswer (Some d) (Err q)) (sym is) (e ∙ ap (λ (q : SavedPlace). Err q) is)
      | inr is ↦ subst (λ (q : SavedPlace). IsSavedAnswer (Some d) (Err q)) (sym is) (e ∙ ap (λ (q : SavedPlace). Err q) is)
    ]

answer-at : RowsAreTested → (d : Data) (form : Result SavedRows SavedPlace) → saved_form_at d ≡ form → IsSavedAnswer (Some d) (checked_rows form)
answer-at law d (Ok s) e = answer-ok law d s e
answer-at law d (Err p) e = answer-err d p e

pub answer-computed : RowsAreTested → (tree : Option Data) → IsSavedAnswer tree (answer_of tree)
unfolding saved_at
answer-computed law None = refl
answer-computed law (Some d) = answer-at law d (saved_form_at d) refl

-- with no first row that doesn't fit, each fits
pub all-fit : RowsAreTested → (rows : List Row) → first_unfit rows ≡ None → AllFit rows
unfolding first_unfit
all-fit law rows none i lt =
    let len = length-enumerate_from 0 rows in
    let end = past_end (passed rows) (length (enumerate_from 0 rows)) none in
    fits-before law rows i (omega (arith, end, lt, len)) lt

pub tree-read : RowsAreTested → (s : SavedRows) → IsSaved s → saved_at (saved_tree s) ≡ Ok s
tree-read law s kept = one-answer (Some (saved_tree s)) (saved_at (saved_tree s)) (Ok s) (answer-computed law (Some (saved_tree s))) (written-back s kept)

pub trees-read : RowsAreTested → (n : ℕ) (d : Data) (s : SavedRows) → IsSavedTree n d s → IsSaved s → saved_at d ≡ Ok s
trees-read law n d s tree kept = one-answer (Some d) (saved_at d) (Ok s) (answer-computed law (Some d)) (answer-back n d s tree kept)

-- ---- found by a loop

fit-at : (rows : List Row) (k : ℕ) (d : Row) → k < length rows → is_unfit (take k rows) (get_or rows k d) ≡ false → fit rows (get_or (enumerate_from 0 rows) k (0, d)) ≡ true
fit-at rows k d within e = ap (fit rows) (numbered rows k d within) ∙ ap not e

unfit-at : (rows : List Row) (k : ℕ) (d : Row) → k < length rows → is_unfit (take k rows) (get_or rows k d) ≡ true → fit rows (get_or (enumerate_from 0 rows) k (0, d)) ≡ false
unfit-at rows k d within e = ap (fit rows) (numbered rows k d within) ∙ ap not e

-- each of the first n rows fits
abbrev pub FitBelow : List Row → ℕ → Type 0
FitBelow rows n = (k : ℕ) (d : Row) → k < n → is_unfit (take k rows) (get_or rows k d) ≡ false

pub found-at : (rows : List Row) (i : ℕ) (d : Row) → i < length rows → FitBelow rows i → is_unfit (take i rows) (get_or rows i d) ≡ true → first_unfit rows ≡ Some i
unfolding first_unfit
found-at rows i d within before here =
    let len = length-enumerate_from 0 rows in
    let at = prefix_len_is (fit rows) (enumerate_from 0 rows) i (0, d) (omega (arith, within, len)) (λ k lt. fit-at rows k d (omega (arith, lt, within)) (before k d lt)) (λ lt. unfit-at rows i d within here) in
    let below : nat_lt i (length (enumerate_from 0 rows)) ≡ true = grind (arith, nat_tests) in
    rw (at, below) refl

pub none-found : (rows : List Row) → FitBelow rows (length rows) → first_unfit rows ≡ None
unfolding first_unfit
none-found [] before = refl
none-found (r ∷ rows) before =
    let all = r ∷ rows in
    let len = length-enumerate_from 0 all in
    let at = prefix_len_is (fit all) (enumerate_from 0 all) (length all) (0, r) (omega (arith, len)) (λ k lt. fit-at all k r lt (before k r lt)) (λ lt. absurd (omega (arith, lt, len))) in
    let end : nat_lt (length all) (length (enumerate_from 0 all)) ≡ false = grind (arith, nat_tests) in
    rw (at, end) refl

-- one row more fits
pub fit_more : (rows : List Row) (i : ℕ) (d : Row) → FitBelow rows i → is_unfit (take i rows) (get_or rows i d) ≡ false → i < length rows → FitBelow rows (i + 1)
fit_more rows i d before here within k e lt =
    elim (cases_eq k i) [
      | inl same ↦ subst (λ (n : ℕ). is_unfit (take n rows) (get_or rows n e) ≡ false) (sym same) (ap (is_unfit (take i rows)) (get_or_default rows i e d within) ∙ here)
      | inr other ↦ before k e (omega (arith, lt, other))
    ]
