-- What the table's silence says of each event.
use Rattle.std.proofs.Common.{◌≡◌, ℕ, ◌+◌, ◌<◌, ◌≤◌, true, false, nat_lt, is_none, List, [], ◌∷◌, length, slice_get, Option, Some, None, refl, ◌∙◌, arith}
use Rattle.std.proofs.lemmas.Bool.Decides.{nat_tests}
use Rattle.std.proofs.lemmas.Bool.{or_parts, not-false, ltb-false, leb-false}
use Rattle.jb_repo.specs.declared.deltas.Delta.{Delta}
use Rattle.jb_repo.specs.Deltas.{counts_in}
use Rattle.jb_rules.specs.declared.row.Row.{Row}
use Rattle.jb_cert.specs.declared.certificates.Certificate.{Certificate}
use Rattle.jb_base.specs.declared.class.ClassId.{ClassId}
use Rattle.jb_repo.specs.declared.events.Event.TheVariants.{Plan, Begin, Commit, Roll, Fail, Drop, Round, Stop}
use Rattle.jb_base.specs.Limits.{max_events, max_retry_limit}
use Rattle.jb_repo.specs.History.{own, owner, is_lane_marked, is_partition_marked, is_plan_open, is_stopping}
use Rattle.jb_repo.specs.Rows.{replayed_row}
use Rattle.jb_repo.specs.Table.{Journal, Condition, conditions, first_refusal, refusal, row_of, reserved, is_full, is_good_plan, is_good_commit, is_ended, is_at_limit}
use Rattle.jb_repo.proofs.RowLemmas.{slice_get-rows_from}

-- each condition of the list fails
abbrev pub NoneHolds : List Condition → Type 0
NoneHolds [] = Unit {0}
NoneHolds ((holds, refused) ∷ others) = (holds ≡ false) × NoneHolds others

pub passes : (conditions : List Condition) → first_refusal conditions ≡ None → NoneHolds conditions
passes [] h = tt
passes ((true, refused) ∷ others) h = absurd cc
passes ((false, refused) ∷ others) h = (refl, passes others h)

pub some_value : {X : Type 0} (o : Option X) → is_none o ≡ false → (x : X) × (o ≡ Some x)
some_value None h = absurd cc
some_value (Some x) h = (x, refl)

pub full_false : (j : Journal) (n : ℕ) → is_full j n ≡ false → length j.past + reserved j + n ≤ max_events
full_false j n h = ltb-false _ _ h

pub record BeginPasses (j : Journal) (l p : ℕ) : Type 0 where
  pub not_stopping : is_stopping j.past ≡ false
  pub partition : p < length j.opening
  pub lane : l < j.threads
  pub lane_unmarked : is_lane_marked l j.past ≡ false
  pub partition_unmarked : is_partition_marked p j.past ≡ false
  pub not_over : is_ended (row_of j p) ≡ false
  pub open_plan : is_plan_open j.past ≡ true
  pub room : length j.past + reserved j + 2 ≤ max_events
  pub below_limit : is_at_limit (row_of j p) ≡ false

pub begin_passes : (j : Journal) (l p : ℕ) → refusal j (Begin l p) ≡ None → BeginPasses j l p
begin_passes j l p h =
    let a = passes (conditions j (Begin l p)) h in
    let b = a.1 in
    let c = b.1 in
    let d = c.1 in
    let e = d.1 in
    let f = e.1 in
    let g = f.1 in
    let idle = or_parts _ _ e.0 in
    let full = or_parts _ _ g.0 in
    record {
      not_stopping = a.0;
      partition = leb-false _ _ b.0;
      lane = leb-false _ _ c.0;
      lane_unmarked = d.0;
      partition_unmarked = idle.0;
      not_over = idle.1;
      open_plan = not-false _ f.0;
      room = full_false j 2 full.0;
      below_limit = full.1;
    }

pub record PlanPasses (j : Journal) (n : ℕ) (k : Certificate) : Type 0 where
  pub not_stopping : is_stopping j.past ≡ false
  pub none_runs : reserved j ≡ 0
  pub no_plan : is_plan_open j.past ≡ false
  pub good : is_good_plan j n k ≡ true
  pub room : length j.past + reserved j + 1 ≤ max_events

pub none_below : (n : ℕ) → nat_lt 0 n ≡ false → n ≡ 0
none_below n h = grind (arith, nat_tests)

pub plan_passes : (j : Journal) (n : ℕ) (k : Certificate) → refusal j (Plan n k) ≡ None → PlanPasses j n k
plan_passes j n k h =
    let a = passes (conditions j (Plan n k)) h in
    let b = a.1 in
    let c = b.1 in
    let d = c.1 in
    let still = or_parts _ _ b.0 in
    record { not_stopping = a.0; none_runs = none_below _ still.0; no_plan = still.1; good = not-false _ c.0; room = full_false j 1 d.0 }

pub record OutcomePasses (j : Journal) (l : ℕ) : Type 0 where
  pub lane : l < j.threads
  pub partition : ℕ
  pub owned : owner l j.past ≡ Some partition

pub commit_passes : (j : Journal) (l : ℕ) (d : Delta) (w a : ℕ) → refusal j (Commit l d w a) ≡ None → OutcomePasses j l × (is_good_commit j (owner l j.past) (counts_in d) w ≡ true) × (a ≤ max_retry_limit)
commit_passes j l d w a h =
    let p = passes (conditions j (Commit l d w a)) h in
    let b = p.1 in
    let c = b.1 in
    let v = some_value _ b.0 in
    let good = or_parts _ _ c.0 in
    (record { lane = leb-false _ _ p.0; partition = v.0; owned = v.1 }, not-false _ good.0, ltb-false _ _ good.1)

pub roll_passes : (j : Journal) (l : ℕ) (k : ClassId) (a : ℕ) → refusal j (Roll l k a) ≡ None → OutcomePasses j l
roll_passes j l k a h =
    let p = passes (conditions j (Roll l k a)) h in
    let b = p.1 in
    let v = some_value _ b.0 in
    record { lane = leb-false _ _ p.0; partition = v.0; owned = v.1 }

pub fail_passes : (j : Journal) (l : ℕ) (k : ClassId) (a : ℕ) → refusal j (Fail l k a) ≡ None → OutcomePasses j l
fail_passes j l k a h =
    let p = passes (conditions j (Fail l k a)) h in
    let b = p.1 in
    let v = some_value _ b.0 in
    record { lane = leb-false _ _ p.0; partition = v.0; owned = v.1 }

-- what an outcome repeated is no more than an attempt may
pub roll_few : (j : Journal) (l : ℕ) (k : ClassId) (a : ℕ) → refusal j (Roll l k a) ≡ None → a ≤ max_retry_limit
roll_few j l k a h = ltb-false _ _ (passes (conditions j (Roll l k a)) h).1.1.0

pub fail_few : (j : Journal) (l : ℕ) (k : ClassId) (a : ℕ) → refusal j (Fail l k a) ≡ None → a ≤ max_retry_limit
fail_few j l k a h = ltb-false _ _ (passes (conditions j (Fail l k a)) h).1.1.0

pub drop_passes : (j : Journal) (l : ℕ) → refusal j (Drop l) ≡ None → OutcomePasses j l
drop_passes j l h =
    let a = passes (conditions j (Drop l)) h in
    let b = a.1 in
    let v = some_value _ b.0 in
    record { lane = leb-false _ _ a.0; partition = v.0; owned = v.1 }

pub record RoundPasses (j : Journal) : Type 0 where
  pub none_runs : reserved j ≡ 0
  pub open_plan : is_plan_open j.past ≡ true
  pub room : length j.past + reserved j + 1 ≤ max_events

pub round_passes : (j : Journal) → refusal j Round ≡ None → RoundPasses j
round_passes j h =
    let a = passes (conditions j Round) h in
    let b = a.1 in
    let c = b.1 in
    record { none_runs = none_below _ a.0; open_plan = not-false _ b.0; room = full_false j 1 c.0 }

pub stop_passes : (j : Journal) → refusal j Stop ≡ None → length j.past + reserved j + 1 ≤ max_events
stop_passes j h = full_false j 1 (passes (conditions j Stop) h).0

-- the row of a partition, from its opening row
pub row_of-is : (j : Journal) (p : ℕ) (r : Row) → slice_get j.opening p ≡ Some r → row_of j p ≡ Some (replayed_row j.item_count r (own p j.past))
row_of-is j p r h =
    let e : 0 + p ≡ p = omega arith in
    slice_get-rows_from j.item_count j.past 0 j.opening p ∙ rw (h, e) refl
