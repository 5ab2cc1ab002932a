-- Partitions that begin anew.
use Rattle.std.proofs.Common.{◌≡◌, ◌≢◌, ℕ, suc, zero, ◌<◌, ◌≤◌, Bool, true, false, cond, List, [], ◌∷◌, length, map, Some, refl, ap, sym, subst, arith, inl, inr}
use Rattle.std.specs.Prelude.{slice_get, slice_index_or, All, ◌⊎◌, ◌==◌}
use Rattle.std.proofs.lemmas.List.{length-map}
use Rattle.jb_base.specs.declared.range.Range.{Range}
use Rattle.jb_base.specs.Limits.{max_records, max_retry_limit, max_threads}
use Rattle.jb_job.specs.Records.{StepRecord}
use Rattle.jb_plan.specs.Plans.{CheckedPlan, IsCheckedPlan, IsWithin}
use Rattle.jb_plan.specs.Ranges.{AreDisjoint}
use Rattle.jb_rules.specs.Laws.{RowsStaySound}
use Rattle.jb_rules.specs.Rows.{fresh_row, range_of}
use Rattle.jb_rules.specs.Sound.{IsSoundRow}
use Rattle.jb_rules.specs.States.{is_running}
use Rattle.jb_rules.specs.declared.row.Row.{Row}
use Rattle.jb_rules.specs.declared.row.RowState.{RowState}
use Rattle.jb_rules.specs.declared.row.RowState.TheVariants as state
use Rattle.jb_saved.specs.GoingOn.{AreUnfailed}
use Rattle.jb_saved.specs.SavedRows.{SavedRows, IsSaved}
use Rattle.jb_chunk.specs.TaskState.{HasItemCount}
use Rattle.jb_step.specs.preparing.Setup.{IsSetup, fresh_rows}
use Rattle.jb_step.specs.inside.preparing.Fresh.{setup_of_rows}
use Rattle.jb_step.specs.inside.preparing.Preparing.{MayOpen}

abbrev IsFreshAt : List Range → ℕ → Row → Type 0
IsFreshAt ranges i row = (x : Range) × (i < length ranges) × (slice_index_or ranges i x ≡ x) × (row ≡ fresh_row x)

fresh-at : (ranges : List Range) (i : ℕ) (row : Row) → slice_get (map fresh_row ranges) i ≡ Some row → IsFreshAt ranges i row
fresh-at [] i row e = let never : ⊥ = cc in absurd never
fresh-at (x ∷ xs) zero row e = (x, omega arith, refl, cc)
fresh-at (x ∷ xs) (suc i) row e =
    let more = fresh-at xs i row e in
    let lt = more.1 in
    (more.0, omega (arith, lt), more.2, more.3)

within-at : (ranges : List Range) (i : ℕ) (x : Range) → All (IsWithin max_records) ranges → i < length ranges → slice_index_or ranges i x ≡ x → IsWithin max_records x
within-at ranges i x all lt is = subst (λ (r : Range). IsWithin max_records r) is (all i x lt)

idle-by : (b : Bool) → is_running (cond b state.Finished state.Waiting) ≡ false
idle-by true = refl
idle-by false = refl

begun-by : (b : Bool) → (cond b state.Finished state.Waiting ≡ state.Waiting) ⊎ (cond b state.Finished state.Waiting ≡ state.Finished)
begun-by true = inr refl
begun-by false = inl refl

ranges-back : (ranges : List Range) → map range_of (map fresh_row ranges) ≡ ranges
ranges-back [] = refl
ranges-back (x ∷ xs) = ap (λ rs. x ∷ rs) (ranges-back xs)

-- new rows may open a step
pub fresh-may-open : RowsStaySound → (plan : CheckedPlan) → IsCheckedPlan plan → MayOpen (fresh_rows plan.ranges)
fresh-may-open law plan checked =
    let long = length-map plan.ranges fresh_row in
    let some = checked.some in
    let few = checked.few in
    record {
      some_rows = omega (arith, long, some);
      few_rows = omega (arith, long, few);
      idle = λ i row e.
          let at = fresh-at plan.ranges i row e in
          let within = within-at plan.ranges i at.0 checked.within at.1 at.2 in
          subst (λ (r : Row). IsSoundRow r × (is_running r.state ≡ false)) (sym at.3) (law.fresh at.0 within.0 within.1, idle-by (at.0.lo == at.0.hi));
      disjoint = subst (λ (rs : List Range). AreDisjoint rs) (sym (ranges-back plan.ranges)) checked.disjoint;
      begun = λ i row e.
          let at = fresh-at plan.ranges i row e in
          subst (λ (r : Row). (r.state ≡ state.Waiting) ⊎ (r.state ≡ state.Finished)) (sym at.3) (begun-by (at.0.lo == at.0.hi));
    }

begun-state : (s : RowState) → is_running s ≡ false → s ≢ state.Failed → (s ≡ state.Waiting) ⊎ (s ≡ state.Finished)
begun-state state.Waiting still unfailed = inl refl
begun-state (state.Running lane) still unfailed = let never : ⊥ = cc in absurd never
begun-state state.Finished still unfailed = inr refl
begun-state state.Failed still unfailed = absurd (unfailed refl)

-- and so may saved ones, none of them failed
pub saved-may-open : (saved : SavedRows) → IsSaved saved → AreUnfailed saved.rows → MayOpen saved.rows
saved-may-open saved kept unfailed = record {
  some_rows = kept.some_rows;
  few_rows = kept.few_rows;
  idle = kept.idle;
  disjoint = kept.disjoint;
  begun = λ i row e. begun-state row.state (kept.idle i row e).1 (unfailed i row e);
}

pub opened-is : (rows : List Row) (plan : CheckedPlan) (step : StepRecord) (is_fresh : Bool) → MayOpen rows → 1 ≤ plan.threads → plan.threads ≤ max_threads → step.rules.retry_limit ≤ max_retry_limit → HasItemCount step.item_count
    → IsSetup (setup_of_rows rows plan step is_fresh)
opened-is rows plan step is_fresh open_ some few retried items = record {
  openable = record {
    some_rows = open_.some_rows;
    few_rows = open_.few_rows;
    idle = open_.idle;
    disjoint = open_.disjoint;
    some_threads = some;
    few_threads = few;
    some_items = items.some;
    few_items = items.few;
  };
  begun = open_.begun;
  retried = retried;
}
