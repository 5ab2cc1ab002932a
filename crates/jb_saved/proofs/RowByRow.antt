-- What saved rows keep, row by row.
use Rattle.std.proofs.Common.{◌≡◌, ℕ, zero, suc, ◌<◌, ◌≤◌, List, [], ◌∷◌, ◌++◌, map, length, get_or, Some, None, Bool, true, false, cond, not, refl, sym, subst, arith}
use Rattle.std.specs.Prelude.{nat_lt}
use Rattle.std.specs.List.{prefix_len}
use Rattle.std.proofs.lemmas.Bool.{not-true}
use Rattle.std.proofs.lemmas.Bool.Decides.{nat_tests}
use Rattle.std.proofs.lemmas.List.{get_or-map, length-map}
use Rattle.std.proofs.lemmas.List.Sums.{prefix_len_passes}
use Rattle.std.proofs.lemmas.Option.{get_or_from_slice_get, slice_get-get_or, slice_get_within}
use Rattle.jb_base.specs.declared.range.Range.{Range}
use Rattle.jb_base.specs.Name.{IsName}
use Rattle.jb_base.specs.Limits.{max_partitions}
use Rattle.jb_plan.specs.Ranges.{HaveNoneInCommon, AreDisjoint}
use Rattle.jb_repo.specs.Sound.{IsTable}
use Rattle.jb_repo.proofs.Ranges.{Apart}
use Rattle.jb_rules.specs.declared.counts.Counts.{Counts}
use Rattle.jb_rules.specs.declared.row.Row.{Row}
use Rattle.jb_rules.specs.Rows.{range_of}
use Rattle.jb_rules.specs.States.{is_running}
use Rattle.jb_saved.specs.Answers.{AllFit, first_running}
use Rattle.jb_saved.specs.SavedRows.{IsSaved}
use Rattle.jb_saved.specs.inside.Forms.{AreStill}

-- one row more is still
pub still_more : (rows : List Row) (r : Row) → AreStill rows → is_running r.state ≡ false → AreStill (rows ++ r ∷ [])
still_more [] r still calm zero s is = let same : r ≡ s = cc in subst (λ (x : Row). is_running x.state ≡ false) same calm
still_more [] r still calm (suc i) s is = cc
still_more (x ∷ rows) r still calm zero s is = still zero s is
still_more (x ∷ rows) r still calm (suc i) s is = still_more rows r (λ j t has. still (suc j) t has) calm i s is

pub some-row : (rows : List Row) (i : ℕ) → i < length rows → Row
some-row [] i lt = absurd (omega arith)
some-row (r ∷ rows) i lt = r

pub disjoint_of : (rows : List Row) → Apart rows → AreDisjoint (map range_of rows)
disjoint_of rows apart i j d lt within =
    let n = length-map rows range_of in
    let below : j < length rows = omega (arith, n, within) in
    let first : i < length rows = omega (arith, below, lt) in
    let row = some-row rows j below in
    let both = apart i j (get_or rows i row) (get_or rows j row) lt (slice_get-get_or rows i row first) (slice_get-get_or rows j row below) in
    let half = subst (λ (x : Range). HaveNoneInCommon x (range_of (get_or rows j row))) (sym (get_or-map range_of rows i row d first)) both in
    subst (λ (x : Range). HaveNoneInCommon (get_or (map range_of rows) i d) x) (sym (get_or-map range_of rows j row d below)) half

-- what the tests of a saved text give
pub kept : (step : List ℕ) (rows : List Row) → IsName step → 1 ≤ length rows → length rows ≤ max_partitions → AreStill rows → AllFit rows → IsSaved (record { step = step; rows = rows })
kept step rows named some few still fit = record {
  named = named;
  some_rows = some;
  few_rows = few;
  idle = λ i r is. ((fit i (slice_get_within rows i r is) r is).0, still i r is);
  disjoint = disjoint_of rows (λ i k r s lt is also. (fit k (slice_get_within rows k s also) s also).1 i r lt is);
}

pub past_end : (n m : ℕ) → cond (nat_lt n m) (Some n) None ≡ None → m ≤ n
past_end n m none = elim (nat_lt n m) as (λ b. nat_lt n m ≡ b → cond b (Some n) None ≡ None → m ≤ n) [ true ↦ λ e h. absurd cc | false ↦ λ e h. grind (arith, nat_tests) ] refl none

abbrev still : Row → Bool
still r = not (is_running r.state)

-- no first row that runs: none runs
still_of : (rows : List Row) → first_running rows ≡ None → AreStill rows
still_of rows none i r is =
    let end = past_end (prefix_len still rows) (length rows) none in
    let lt = slice_get_within rows i r is in
    let passes = prefix_len_passes still rows i r (omega (arith, end, lt)) in
    not-true (is_running r.state) (subst (λ (x : Row). still x ≡ true) (get_or_from_slice_get rows i r r is) passes)

-- the rows of a snapshot in which none runs
pub kept_of : (step : List ℕ) (rows copy : List Row) (totals : Counts) → IsName step → IsTable rows totals → first_running rows ≡ None → copy ≡ rows → IsSaved (record { step = step; rows = copy })
kept_of step rows copy totals named table none same =
    subst (λ (xs : List Row). IsSaved (record { step = step; rows = xs })) (sym same) (record {
      named = named;
      some_rows = table.some_rows;
      few_rows = table.few_rows;
      idle = λ i r is. (table.sound i r is, still_of rows none i r is);
      disjoint = table.disjoint;
    })
