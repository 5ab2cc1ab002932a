-- The kept table of rows and the definition's rows.
use Rattle.std.proofs.Common.{◌≡◌, ℕ, zero, suc, ◌+◌, ◌<◌, ◌≤◌, List, [], ◌∷◌, ◌++◌, length, take, set, get_or, slice_get, Option, Some, None, option_map, refl, sym, ◌∙◌, ap, subst, arith, IfSome}
use Rattle.std.proofs.lemmas.Option.{slice_get-get_or, slice_get_past, get_or_from_slice_get}
use Rattle.std.proofs.lemmas.List.{get_or-take}
use Rattle.std.proofs.Math.Seq.{take-set-lt}
use Rattle.jb_rules.specs.declared.row.Row.{Row}
use Rattle.jb_rules.specs.declared.row.RowState.TheVariants.{Waiting}
use Rattle.jb_repo.specs.declared.events.Event.{Event}
use Rattle.jb_rules.specs.Sound.{IsSoundRow}
use Rattle.jb_rules.specs.Rows.{range_of, remaining_of}
use Rattle.jb_plan.specs.Ranges.{AreDisjoint}
use Rattle.jb_base.specs.Limits.{max_partitions, max_records}
use Rattle.jb_rules.specs.Counts.{no_counts}
use Rattle.std.specs.Prelude.{sum, map}
use Rattle.jb_base.specs.declared.range.Range.{Range}
use Rattle.jb_repo.specs.History.{own, owner, partition_of}
use Rattle.jb_repo.specs.Rows.{replayed_row, rows_from, remaining, total_counts}
use Rattle.jb_repo.specs.Table.{Journal, Accepted, refusal, after, rows_of, row_of}
use Rattle.jb_repo.specs.Openable.{IsOpenable}
use Rattle.jb_repo.specs.Laws.{next_row}
use Rattle.jb_repo.specs.Sound.{IsTable}
use Rattle.jb_repo.specs.inside.LowerLaws.{LowerRowLaws}
use Rattle.jb_repo.specs.inside.Steps.{stepped_rows, CanStep}
use Rattle.jb_repo.proofs.RowLemmas.{length-rows_from, slice_get-rows_from, rows_from-none, rows_from-some}
use Rattle.jb_repo.proofs.Consistent.{consistent, about, can, rows-sound}
use Rattle.jb_repo.proofs.Stepping.{running-before-end, next-is}
use Rattle.jb_repo.proofs.Passing.{row_of-is}
use Rattle.jb_repo.proofs.Ranges.{remaining-small}

-- OPENING ROWS

-- each row now comes from an opening row
pub record HasOpening (j : Journal) (p : ℕ) (row : Row) : Type 0 where
  pub opening : Row
  pub partition : p < length j.opening
  pub opens : slice_get j.opening p ≡ Some opening
  pub becomes : row ≡ replayed_row j.item_count opening (own p j.past)

pub inside : (rows : List Row) (p : ℕ) (r : Row) → slice_get rows p ≡ Some r → p < length rows
inside [] p r h = absurd cc
inside (x ∷ rows) zero r h = omega arith
inside (x ∷ rows) (suc p) r h = omega (arith, inside rows p r h)

pub at_some : (rows : List Row) (p : ℕ) → p < length rows → (r : Row) × (slice_get rows p ≡ Some r)
at_some [] p h = absurd (omega arith)
at_some (x ∷ rows) zero h = (x, refl)
at_some (x ∷ rows) (suc p) h = at_some rows p (omega arith)

opening_of : (j : Journal) (p : ℕ) (row : Row) (o : Option Row) → slice_get j.opening p ≡ o → row_of j p ≡ Some row → HasOpening j p row
opening_of j p row None h is =
    let e = slice_get-rows_from j.item_count j.past 0 j.opening p in
    let f : option_map (λ (r : Row). replayed_row j.item_count r (own (0 + p) j.past)) (slice_get j.opening p) ≡ None = rw h refl in
    absurd cc
opening_of j p row (Some r) h is =
    let e = row_of-is j p r h in
    let f : row ≡ replayed_row j.item_count r (own p j.past) = cc in
    record { opening = r; partition = inside j.opening p r h; opens = h; becomes = f }

pub has_opening : (j : Journal) (p : ℕ) (row : Row) → row_of j p ≡ Some row → HasOpening j p row
has_opening j p row is = opening_of j p row (slice_get j.opening p) refl is

pub row_sound : LowerRowLaws → (j : Journal) → IsOpenable j → Accepted j → (p : ℕ) (row : Row) → row_of j p ≡ Some row → IsSoundRow row
row_sound laws j ready ok p row is =
    let o = has_opening j p row is in
    subst (λ (x : Row). IsSoundRow x) (sym o.becomes) (rows-sound laws j ready p o.opening o.opens j.past ok)

-- the row of a partition that a lane runs has a record left
pub row_unfinished : LowerRowLaws → (j : Journal) → IsOpenable j → Accepted j → (l p : ℕ) (row : Row) → owner l j.past ≡ Some p → row_of j p ≡ Some row → row.at < row.hi
row_unfinished laws j ready ok l p row owned is =
    let o = has_opening j p row is in
    let s = (consistent j ready j.past ok).states l p o.opening owned o.opens in
    running-before-end row l (row_sound laws j ready ok p row is) (ap (λ (x : Row). x.state) o.becomes ∙ s)

pub remaining_fits : LowerRowLaws → (j : Journal) → IsOpenable j → Accepted j → sum (remaining j.item_count (rows_of j)) ≤ max_records
remaining_fits laws j ready ok =
    remaining-small laws j.item_count j.past j.opening ready.some_items ready.disjoint (λ p r opens. rows-sound laws j ready p r opens j.past ok)

-- THE KEPT TABLE

pub kept_row : (j : Journal) (rows : List Row) (p : ℕ) (d : Row) → take (length j.opening) rows ≡ rows_of j → p < length j.opening → row_of j p ≡ Some (get_or rows p d)
kept_row j rows p d table lt =
    let n : length (rows_of j) ≡ length j.opening = length-rows_from j.item_count j.past 0 j.opening in
    let q : p < length (rows_of j) = omega (arith, n) in
    let e : slice_get (rows_of j) p ≡ Some (get_or (rows_of j) p d) = slice_get-get_or (rows_of j) p d q in
    let g : get_or (take (length j.opening) rows) p d ≡ get_or rows p d = get_or-take (length j.opening) rows p d lt in
    let h : get_or (rows_of j) p d ≡ get_or rows p d = ap (λ (x : List Row). get_or x p d) (sym table) ∙ g in
    e ∙ ap Some h

pub no_row : (j : Journal) (p : ℕ) → length j.opening ≤ p → row_of j p ≡ None
no_row j p le =
    let n = length-rows_from j.item_count j.past 0 j.opening in
    slice_get_past (rows_of j) p (omega (arith, n))

module _ (j : Journal) (ready : IsOpenable j) (ok : Accepted j) (e : Event) (passes : refusal j e ≡ None) where
  pub about_row : (p : ℕ) → partition_of e j.past ≡ Some p → p < length j.opening
  about_row p part = about j j.past (consistent j ready j.past ok) e p passes part

  pub can_step : LowerRowLaws → (p : ℕ) (row : Row) → partition_of e j.past ≡ Some p → row_of j p ≡ Some row → CanStep j.item_count row e
  can_step laws p row part is =
      let o = has_opening j p row is in
      subst (λ (x : Row). CanStep j.item_count x e) (sym o.becomes)
      (can j j.past (consistent j ready j.past ok) p o.opening o.opens (rows-sound laws j ready p o.opening o.opens j.past ok) e passes part)

  pub table_after : LowerRowLaws → (rows : List Row) (d : Row) (o : Option ℕ) → take (length j.opening) rows ≡ rows_of j → partition_of e j.past ≡ o → take (length j.opening) (stepped_rows j.item_count rows o e d) ≡ rows_of (after j e)
  table_after laws rows d None table part = table ∙ sym (rows_from-none j.item_count e j.past 0 j.opening part)
  table_after laws rows d (Some p) table part =
      let lt : p < length j.opening = about_row p part in
      let is = kept_row j rows p d table lt in
      let z : p ≡ 0 + p = omega arith in
      let r = rows_from-some j.item_count e j.past p p 0 j.opening (get_or rows p d) part z is in
      let n = next-is laws j.item_count (get_or rows p d) e ready.some_items (can_step laws p (get_or rows p d) part is) in
      take-set-lt (length j.opening) rows p (next_row j.item_count (get_or rows p d) e) lt
      ∙ ap (λ (x : List Row). set x p (next_row j.item_count (get_or rows p d) e)) table
      ∙ ap (λ (row : Row). set (rows_of j) p row) (sym n)
      ∙ sym r

-- WHAT THE CODE NEEDS

-- what a read past the end of a list of rows gives
abbrev pub waiting_row : Row
waiting_row = record { lo = 0; hi = 0; at = 0; redo = 0; retries = 0; written = 0; counts = no_counts; in_place = 0; state = Waiting }

pub read_row : (rows : List Row) (i : ℕ) (d : Row) → i < length rows → slice_get rows i ≡ Some (get_or rows i d)
read_row rows i d lt = slice_get-get_or rows i d lt

pub remaining-push : (c : ℕ) (rows : List Row) (row : Row) → remaining c (rows ++ row ∷ []) ≡ remaining c rows ++ remaining_of c row row.state ∷ []
remaining-push c [] row = refl
remaining-push c (r ∷ rows) row = let t = remaining-push c rows row in rw t refl

pub kept_get : (j : Journal) (rows : List Row) (p : ℕ) (row : Row) → take (length j.opening) rows ≡ rows_of j → p < length j.opening → slice_get rows p ≡ Some row → row_of j p ≡ Some row
kept_get j rows p row table lt h = kept_row j rows p row table lt ∙ ap Some (get_or_from_slice_get rows p row row h)

module _ (j : Journal) (ready : IsOpenable j) (ok : Accepted j) (e : Event) (passes : refusal j e ≡ None) where
  pub inside_all : (o : Option ℕ) → partition_of e j.past ≡ o → IfSome o (λ p. p < max_partitions)
  inside_all None part = tt
  inside_all (Some p) part = omega (arith, about_row j ready ok e passes p part, ready.few_rows)

  pub can_all : LowerRowLaws → (rows : List Row) (o : Option ℕ) → take (length j.opening) rows ≡ rows_of j → partition_of e j.past ≡ o → IfSome o (λ p. (row : Row) → slice_get rows p ≡ Some row → CanStep j.item_count row e)
  can_all laws rows None table part = tt
  can_all laws rows (Some p) table part = λ row h.
      can_step j ready ok e passes laws p row part (kept_get j rows p row table (about_row j ready ok e passes p part) h)

-- no event changes a range
ranges-same : (c : ℕ) (past : List Event) (first : ℕ) (rows : List Row) → map range_of (rows_from c past first rows) ≡ map range_of rows
ranges-same c past first [] = refl
ranges-same c past first (r ∷ rows) = ap (λ (rs : List Range). range_of r ∷ rs) (ranges-same c past (first + 1) rows)

-- the rows of a repository are a table
pub is_table : LowerRowLaws → (j : Journal) → IsOpenable j → Accepted j → IsTable (rows_of j) (total_counts (rows_of j))
is_table laws j ready ok =
    let n = length-rows_from j.item_count j.past 0 j.opening in
    record {
      some_rows = omega (arith, n, ready.some_rows);
      few_rows = omega (arith, n, ready.few_rows);
      sound = row_sound laws j ready ok;
      disjoint = subst AreDisjoint (sym (ranges-same j.item_count j.past 0 j.opening)) ready.disjoint;
      sum = refl;
    }
