-- Rows that go on keep what saved rows keep.
use Rattle.std.proofs.Common.{◌≡◌, ◌≢◌, ℕ, List, [], ◌∷◌, map, slice_get, Option, Some, None, true, false, refl, sym, ap₂, ◌∙◌, subst, if◌then◌else◌, Bool}
use Rattle.std.specs.Prelude.{option_map}
use Rattle.std.proofs.lemmas.List.{length-map}
use Rattle.std.proofs.lemmas.Option.{slice_get-map}
use Rattle.jb_base.specs.declared.range.Range.{Range}
use Rattle.jb_plan.specs.Ranges.{AreDisjoint}
use Rattle.jb_rules.specs.declared.row.Row.{Row}
use Rattle.jb_rules.specs.declared.row.RowState.{RowState}
use Rattle.jb_rules.specs.declared.row.RowState.TheVariants.{Waiting, Running, Finished, Failed}
use Rattle.jb_rules.specs.Laws.{RowsStaySound, UnfinishedRowsGoOn}
use Rattle.jb_rules.specs.Rows.{range_of, dropped_row}
use Rattle.jb_rules.specs.Sound.{IsSoundRow}
use Rattle.jb_rules.specs.States.{is_running, is_failed}
use Rattle.jb_repo.specs.Openable.{AreIdle}
use Rattle.jb_saved.specs.GoingOn.{restarted, AreUnfailed}
use Rattle.jb_saved.specs.SavedRows.{SavedRows, IsSaved}

failed-is : (s : RowState) → is_failed s ≡ true → s ≡ Failed
failed-is Waiting e = absurd cc
failed-is (Running lane) e = absurd cc
failed-is Finished e = absurd cc
failed-is Failed e = refl

unfinished : (s : RowState) → is_failed s ≡ true → s ≡ Finished → ⊥
unfinished Waiting e f = absurd cc
unfinished (Running lane) e f = absurd cc
unfinished Finished e f = absurd cc
unfinished Failed e f = absurd cc

abbrev by : Bool → Row → Row
by b r = if b then dropped_row r else r

sound-by : RowsStaySound → UnfinishedRowsGoOn → (r : Row) (b : Bool) → is_failed r.state ≡ b → IsSoundRow r → IsSoundRow (by b r)
sound-by stay go r true e sound = stay.dropped r sound (go r sound (unfinished r.state e))
sound-by stay go r false e sound = sound

still-by : (r : Row) (b : Bool) → is_running r.state ≡ false → is_running (by b r).state ≡ false
still-by r true e = refl
still-by r false e = e

not-failed : (s : RowState) → is_failed s ≡ false → s ≢ Failed
not-failed Waiting e f = absurd cc
not-failed (Running lane) e f = absurd cc
not-failed Finished e f = absurd cc
not-failed Failed e f = absurd cc

unfailed-by : (r : Row) (b : Bool) → is_failed r.state ≡ b → (by b r).state ≢ Failed
unfailed-by r true e f = absurd cc
unfailed-by r false e f = not-failed r.state e f

range-by : (r : Row) (b : Bool) → range_of (by b r) ≡ range_of r
range-by r true = refl
range-by r false = refl

ranges : (rows : List Row) → map range_of (map restarted rows) ≡ map range_of rows
ranges [] = refl
ranges (r ∷ rows) = ap₂ (λ (x : Range) (xs : List Range). x ∷ xs) (range-by r (is_failed r.state)) (ranges rows)

-- the row from which it goes on
source : (o : Option Row) (r : Row) → option_map restarted o ≡ Some r → (q : Row) × (o ≡ Some q) × (r ≡ restarted q)
source None r e = absurd cc
source (Some q) r e = (q, refl, cc)

origin : (rows : List Row) (i : ℕ) (r : Row) → slice_get (map restarted rows) i ≡ Some r → (q : Row) × (slice_get rows i ≡ Some q) × (r ≡ restarted q)
origin rows i r is = source (slice_get rows i) r (sym (slice_get-map restarted rows i) ∙ is)

idle-restarted : RowsStaySound → UnfinishedRowsGoOn → (rows : List Row) → AreIdle rows → AreIdle (map restarted rows)
idle-restarted stay go rows idle i r is =
    let from = origin rows i r is in
    let old = idle i from.0 from.1 in
    let failed = is_failed from.0.state in
    subst (λ (x : Row). IsSoundRow x × (is_running x.state ≡ false)) (sym from.2) (sound-by stay go from.0 failed refl old.0, still-by from.0 failed old.1)

pub kept-restarted : RowsStaySound → UnfinishedRowsGoOn → (s : SavedRows) (rows : List Row) → IsSaved s → rows ≡ map restarted s.rows → IsSaved (record { step = s.step; rows = rows })
kept-restarted stay go s rows kept e =
    let len = length-map s.rows restarted in
    subst (λ (xs : List Row). IsSaved (record { step = s.step; rows = xs })) (sym e) (record {
      named = kept.named;
      some_rows = rw len kept.some_rows;
      few_rows = rw len kept.few_rows;
      idle = idle-restarted stay go s.rows kept.idle;
      disjoint = subst AreDisjoint (sym (ranges s.rows)) kept.disjoint;
    })

pub unfailed-restarted : (s : SavedRows) (rows : List Row) → rows ≡ map restarted s.rows → AreUnfailed rows
unfailed-restarted s rows e i r is =
    let from = origin s.rows i r (subst (λ (xs : List Row). slice_get xs i ≡ Some r) e is) in
    subst (λ (x : Row). x.state ≢ Failed) (sym from.2) (unfailed-by from.0 (is_failed from.0.state) refl)
