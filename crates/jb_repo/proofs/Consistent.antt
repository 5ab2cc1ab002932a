-- In every accepted history a lane runs a partition exactly where the partition's row says so, and both are marked; and the
-- rows are sound.
use Rattle.std.proofs.Common.{◌≡◌, ◌≢◌, ℕ, zero, suc, ◌+◌, ◌<◌, ◌≤◌, Bool, true, false, cond, ◌⊎◌, inl, inr, nat_eq, is_some, List, [], ◌∷◌, ◌++◌, length, slice_get, Option, Some, None, refl, sym, ◌∙◌, ap, subst, eq-eqb, arith}
use Rattle.std.proofs.lemmas.Bool.{ne_eqb, cases_eq, or_parts, or_right, ltb-false, leb-false}
use Rattle.std.proofs.lemmas.Bool.Decides.{nat_tests}
use Rattle.jb_rules.specs.declared.counts.Counts.{Counts}
use Rattle.jb_rules.specs.declared.row.Row.{Row}
use Rattle.jb_rules.specs.declared.row.RowState.TheVariants.{Waiting, Running, Finished}
use Rattle.jb_cert.specs.declared.certificates.Certificate.{Certificate}
use Rattle.jb_repo.specs.declared.events.Event.{Event}
use Rattle.jb_repo.specs.Deltas.{counts_in}
use Rattle.jb_repo.specs.declared.events.Event.TheVariants.{Plan, Begin, Commit, Roll, Fail, Drop, Round, Stop}
use Rattle.jb_rules.specs.Sound.{IsSoundRow}
use Rattle.jb_rules.specs.States.{is_running, has_ended}
use Rattle.jb_repo.specs.History.{own, owner, names_lane, begun_by, partition_of, is_some_of, running, is_lane_marked, is_partition_marked, is_round}
use Rattle.jb_rules.specs.Rows.{state_at}
use Rattle.jb_repo.specs.Rows.{replayed_row, repeats_in}
use Rattle.jb_repo.specs.Table.{Journal, refusal, AcceptedPast, is_good_commit, is_commit_of}
use Rattle.jb_repo.specs.Openable.{IsOpenable}
use Rattle.jb_repo.specs.inside.LowerLaws.{LowerRowLaws}
use Rattle.jb_repo.specs.inside.Steps.{CanStep, IsCommit}
use Rattle.jb_base.specs.Limits.{max_rollbacks, max_retry_limit, max_in_place}
use Rattle.jb_repo.proofs.RowLemmas.{step, own-yes, own-no, own-none, owner-yes, owner-no, replayed_row-step, plus_counts-zero}
use Rattle.jb_repo.proofs.Stepping.{sound-step, waiting-before-end, running-before-end}
use Rattle.jb_repo.proofs.Passing.{BeginPasses, begin_passes, commit_passes, roll_passes, fail_passes, drop_passes, round_passes, row_of-is, roll_few, fail_few}

-- the journal of the same repository at another history
abbrev pub at_past : Journal → List Event → Journal
at_past j past = record j { past = past }

-- an earlier history of an accepted one is accepted
pub accepted_before : (j : Journal) (later past : List Event) → AcceptedPast j (later ++ past) → AcceptedPast j past
accepted_before j [] past ok = ok
accepted_before j (e ∷ later) past ok = accepted_before j later past ok.1

-- what is known of a lane that runs a partition
pub record IsLane (j : Journal) (past : List Event) (l p : ℕ) : Type 0 where
  pub lane : l < j.threads
  pub partition : p < length j.opening
  pub lane_marked : is_lane_marked l past ≡ true
  pub partition_marked : is_partition_marked p past ≡ true

-- the row may be rolled back once more, and has room for the repeats of one more chunk
abbrev pub HasRoom : Row → Type 0
HasRoom row = (row.counts.rollback < max_rollbacks) × (row.in_place + max_retry_limit ≤ max_in_place)

pub record Consistent (j : Journal) (past : List Event) : Type 0 where
  pub lanes : (l p : ℕ) → owner l past ≡ Some p → IsLane j past l p
  pub states : (l p : ℕ) (r : Row) → owner l past ≡ Some p → slice_get j.opening p ≡ Some r → (replayed_row j.item_count r (own p past)).state ≡ Running l
  pub owners : (l p : ℕ) (r : Row) → slice_get j.opening p ≡ Some r → (replayed_row j.item_count r (own p past)).state ≡ Running l → owner l past ≡ Some p
  pub below : (p : ℕ) (r : Row) → slice_get j.opening p ≡ Some r → is_running (replayed_row j.item_count r (own p past)).state ≡ true → HasRoom (replayed_row j.item_count r (own p past))

-- MARKS

pub lane_marked-same : (k : ℕ) (e : Event) (past : List Event) → is_round e ≡ false → begun_by e ≡ None → is_lane_marked k (e ∷ past) ≡ is_lane_marked k past
lane_marked-same k e past r b = rw (r, b) refl

pub partition_marked-same : (k : ℕ) (e : Event) (past : List Event) → is_round e ≡ false → begun_by e ≡ None → is_partition_marked k (e ∷ past) ≡ is_partition_marked k past
partition_marked-same k e past r b = rw (r, b) refl

-- where none of the lanes below n runs, none of them has an owner
pub none_owns : (n : ℕ) (past : List Event) (l p : ℕ) → running n past ≡ 0 → l < n → owner l past ≡ Some p → ⊥
none_owns zero past l p none lt h = absurd (omega arith)
none_owns (suc n) past l p none lt h =
    elim (cases_eq l n) [
      | inl e ↦
          let r : is_some (owner n past) ≡ true = rw (← e, h) refl in
          let t = rw r at none in absurd (omega (arith, t))
      | inr ne ↦ none_owns n past l p (omega arith) (omega arith) h
    ]

-- EVENTS THAT NAME NO LANE

module _ (j : Journal) (past : List Event) (old : Consistent j past) where
  no_lane : (e : Event) → ((k : ℕ) → names_lane k e ≡ false) → partition_of e past ≡ None → ((l p : ℕ) → owner l past ≡ Some p → IsLane j (e ∷ past) l p) → Consistent j (e ∷ past)
  no_lane e names part lane =
      record {
        lanes = λ l p h. lane l p (sym (owner-no l e past (names l)) ∙ h);
        states = λ l p r h o.
            let s = old.states l p r (sym (owner-no l e past (names l)) ∙ h) o in
            rw (own-none p e past part) s;
        owners = λ l p r o s.
            let s' = rw (own-none p e past part) at s in
            owner-no l e past (names l) ∙ old.owners l p r o s';
        below = λ p r o s.
            let s' = rw (own-none p e past part) at s in
            rw (own-none p e past part) (old.below p r o s');
      }

  -- a Plan or a Stop changes no mark
  unmarking : (e : Event) → is_round e ≡ false → begun_by e ≡ None → (l p : ℕ) → owner l past ≡ Some p → IsLane j (e ∷ past) l p
  unmarking e r b l p h =
      let k = old.lanes l p h in
      record {
        lane = k.lane;
        partition = k.partition;
        lane_marked = lane_marked-same l e past r b ∙ k.lane_marked;
        partition_marked = partition_marked-same p e past r b ∙ k.partition_marked;
      }

  plan_keeps : (n : ℕ) (k : Certificate) → Consistent j (Plan n k ∷ past)
  plan_keeps n k = no_lane (Plan n k) (λ _. refl) refl (unmarking (Plan n k) refl refl)

  stop_keeps : Consistent j (Stop ∷ past)
  stop_keeps = no_lane Stop (λ _. refl) refl (unmarking Stop refl refl)

  -- where none of the lanes runs, none has an owner
  round_keeps : running j.threads past ≡ 0 → Consistent j (Round ∷ past)
  round_keeps none = no_lane Round (λ _. refl) refl
      (λ l p h. absurd (none_owns j.threads past l p none (old.lanes l p h).lane h))

  -- A BEGIN

  module _ (l p : ℕ) (ok : BeginPasses (at_past j past) l p) where
    -- the lane doesn't run yet, and no lane runs the partition
    pub lane_free : (q : ℕ) → owner l past ≡ Some q → ⊥
    lane_free q h = let m = (old.lanes l q h).lane_marked in let u = ok.lane_unmarked in cc

    partition_free : (k : ℕ) → owner k past ≡ Some p → ⊥
    partition_free k h = let m = (old.lanes k p h).partition_marked in let u = ok.partition_unmarked in cc

    begin_owner_same : owner l (Begin l p ∷ past) ≡ Some p
    begin_owner_same = owner-yes l (Begin l p) past (eq-eqb l l refl)

    begin_owner_other : (k : ℕ) → l ≢ k → owner k (Begin l p ∷ past) ≡ owner k past
    begin_owner_other k ne = owner-no k (Begin l p) past (ne_eqb l k ne)

    begin_own_same : own p (Begin l p ∷ past) ≡ Begin l p ∷ own p past
    begin_own_same = own-yes p (Begin l p) past refl

    begin_own_other : (q : ℕ) → p ≢ q → own q (Begin l p ∷ past) ≡ own q past
    begin_own_other q ne = own-no p q (Begin l p) past refl ne

    begin_lanes : (k q : ℕ) → owner k (Begin l p ∷ past) ≡ Some q → (l ≡ k) ⊎ (l ≢ k) → IsLane j (Begin l p ∷ past) k q
    begin_lanes k q h (inl e) =
        let s = begin_owner_same in
        let q' : p ≡ q = cc in
        record {
          lane = rw (← e) ok.lane;
          partition = rw (← q') ok.partition;
          lane_marked = rw (eq-eqb l k e) refl;
          partition_marked = rw (eq-eqb p q q') refl;
        }
    begin_lanes k q h (inr ne) =
        let o = old.lanes k q (sym (begin_owner_other k ne) ∙ h) in
        record {
          lane = o.lane;
          partition = o.partition;
          lane_marked = or_right _ _ o.lane_marked;
          partition_marked = or_right _ _ o.partition_marked;
        }

    begin_states : (k q : ℕ) (r : Row) → owner k (Begin l p ∷ past) ≡ Some q → slice_get j.opening q ≡ Some r → (l ≡ k) ⊎ (l ≢ k) → (replayed_row j.item_count r (own q (Begin l p ∷ past))).state ≡ Running k
    begin_states k q r h o (inl e) =
        let s = begin_owner_same in
        let q' : p ≡ q = cc in
        rw (own-yes q (Begin l p) past (ap Some q')) (ap Running e)
    begin_states k q r h o (inr ne) =
        let h' = sym (begin_owner_other k ne) ∙ h in
        let not_p : p ≢ q = λ e. partition_free k (rw (← e) at h') in
        rw (begin_own_other q not_p) (old.states k q r h' o)

    begin_owners : (k q : ℕ) (r : Row) → slice_get j.opening q ≡ Some r → (replayed_row j.item_count r (own q (Begin l p ∷ past))).state ≡ Running k → (p ≡ q) ⊎ (p ≢ q) → owner k (Begin l p ∷ past) ≡ Some q
    begin_owners k q r o s (inl e) =
        let s' = rw (own-yes q (Begin l p) past (ap Some e)) at s in
        let same : l ≡ k = cc in
        owner-yes k (Begin l p) past (eq-eqb l k same) ∙ ap Some e
    begin_owners k q r o s (inr ne) =
        let s' = rw (begin_own_other q ne) at s in
        let h = old.owners k q r o s' in
        let not_l : l ≢ k = λ e. lane_free q (rw e h) in
        begin_owner_other k not_l ∙ h

    -- the partition's row before the Begin
    begin_open : (r : Row) → slice_get j.opening p ≡ Some r → has_ended (replayed_row j.item_count r (own p past)).state ≡ false
    begin_open r o = rw (row_of-is (at_past j past) p r o) at ok.not_over

    begin_below : (r : Row) → slice_get j.opening p ≡ Some r → HasRoom (replayed_row j.item_count r (own p past))
    begin_below r o =
        let h = rw (row_of-is (at_past j past) p r o) at ok.below_limit in
        let parts = or_parts _ _ h in
        let few = ltb-false _ _ parts.1 in
        (leb-false _ _ parts.0, omega (arith, few))

    begin_below_all : (q : ℕ) (r : Row) → slice_get j.opening q ≡ Some r → is_running (replayed_row j.item_count r (own q (Begin l p ∷ past))).state ≡ true → (p ≡ q) ⊎ (p ≢ q) → HasRoom (replayed_row j.item_count r (own q (Begin l p ∷ past)))
    begin_below_all q r o s (inl e) =
        let o' : slice_get j.opening p ≡ Some r = rw e o in
        let b = subst (λ (x : ℕ). HasRoom (replayed_row j.item_count r (own x past))) e (begin_below r o') in
        let rollbacks = b.0 in
        let repeats = b.1 in
        rw (own-yes q (Begin l p) past (ap Some e)) (omega (arith, rollbacks), omega (arith, repeats))
    begin_below_all q r o s (inr ne) =
        let s' = rw (begin_own_other q ne) at s in
        rw (begin_own_other q ne) (old.below q r o s')

    begin_keeps : Consistent j (Begin l p ∷ past)
    begin_keeps =
        record {
          lanes = λ k q h. begin_lanes k q h (cases_eq l k);
          states = λ k q r h o. begin_states k q r h o (cases_eq l k);
          owners = λ k q r o s. begin_owners k q r o s (cases_eq p q);
          below = λ q r o s. begin_below_all q r o s (cases_eq p q);
        }

  -- AN OUTCOME

  module _ (e : Event) (l p : ℕ) (names : (k : ℕ) → names_lane k e ≡ nat_eq l k) (begins : begun_by e ≡ None) (part : partition_of e past ≡ Some p) (no_round : is_round e ≡ false) (idle : (row : Row) → is_running (step j.item_count row e).state ≡ false) (owned : owner l past ≡ Some p) where
    outcome_owner_same : (k : ℕ) → l ≡ k → owner k (e ∷ past) ≡ None
    outcome_owner_same k same = owner-yes k e past (names k ∙ eq-eqb l k same) ∙ begins

    outcome_owner_other : (k : ℕ) → l ≢ k → owner k (e ∷ past) ≡ owner k past
    outcome_owner_other k ne = owner-no k e past (names k ∙ ne_eqb l k ne)

    outcome_own_other : (q : ℕ) → p ≢ q → own q (e ∷ past) ≡ own q past
    outcome_own_other q ne = own-no p q e past part ne

    outcome_row : (q : ℕ) (r : Row) → p ≡ q → replayed_row j.item_count r (own q (e ∷ past)) ≡ step j.item_count (replayed_row j.item_count r (own p past)) e
    outcome_row q r same = rw (own-yes q e past (part ∙ ap Some same), same) (replayed_row-step j.item_count r e (own q past))

    outcome_lanes : (k q : ℕ) → owner k (e ∷ past) ≡ Some q → (l ≡ k) ⊎ (l ≢ k) → IsLane j (e ∷ past) k q
    outcome_lanes k q h (inl same) = let n = outcome_owner_same k same in absurd cc
    outcome_lanes k q h (inr ne) = unmarking e no_round begins k q (sym (outcome_owner_other k ne) ∙ h)

    -- another lane runs another partition
    outcome_apart : (k q : ℕ) (r : Row) → l ≢ k → owner k past ≡ Some q → slice_get j.opening q ≡ Some r → p ≢ q
    outcome_apart k q r ne h o same =
        let owned' : owner l past ≡ Some q = rw (← same) owned in
        let a = old.states l q r owned' o in
        let b = old.states k q r h o in
        let eq : l ≡ k = cc in
        ne eq

    outcome_states : (k q : ℕ) (r : Row) → owner k (e ∷ past) ≡ Some q → slice_get j.opening q ≡ Some r → (l ≡ k) ⊎ (l ≢ k) → (replayed_row j.item_count r (own q (e ∷ past))).state ≡ Running k
    outcome_states k q r h o (inl same) = let n = outcome_owner_same k same in absurd cc
    outcome_states k q r h o (inr ne) =
        let h' = sym (outcome_owner_other k ne) ∙ h in
        rw (outcome_own_other q (outcome_apart k q r ne h' o)) (old.states k q r h' o)

    outcome_idle : (q : ℕ) (r : Row) → p ≡ q → is_running (replayed_row j.item_count r (own q (e ∷ past))).state ≡ false
    outcome_idle q r same = ap (λ (row : Row). is_running row.state) (outcome_row q r same) ∙ idle (replayed_row j.item_count r (own p past))

    outcome_owners : (k q : ℕ) (r : Row) → slice_get j.opening q ≡ Some r → (replayed_row j.item_count r (own q (e ∷ past))).state ≡ Running k → (p ≡ q) ⊎ (p ≢ q) → owner k (e ∷ past) ≡ Some q
    outcome_owners k q r o s (inl same) =
        let i = outcome_idle q r same in
        let t : is_running (replayed_row j.item_count r (own q (e ∷ past))).state ≡ true = rw s refl in
        absurd cc
    outcome_owners k q r o s (inr ne) =
        let s' = rw (outcome_own_other q ne) at s in
        let h = old.owners k q r o s' in
        let not_l : l ≢ k = λ same. let h' : owner l past ≡ Some q = rw same h in ne cc in
        outcome_owner_other k not_l ∙ h

    outcome_below : (q : ℕ) (r : Row) → slice_get j.opening q ≡ Some r → is_running (replayed_row j.item_count r (own q (e ∷ past))).state ≡ true → (p ≡ q) ⊎ (p ≢ q) → HasRoom (replayed_row j.item_count r (own q (e ∷ past)))
    outcome_below q r o s (inl same) = let i = outcome_idle q r same in absurd cc
    outcome_below q r o s (inr ne) =
        let s' = rw (outcome_own_other q ne) at s in
        rw (outcome_own_other q ne) (old.below q r o s')

    outcome_keeps : Consistent j (e ∷ past)
    outcome_keeps =
        record {
          lanes = λ k q h. outcome_lanes k q h (cases_eq l k);
          states = λ k q r h o. outcome_states k q r h o (cases_eq l k);
          owners = λ k q r o s. outcome_owners k q r o s (cases_eq p q);
          below = λ q r o s. outcome_below q r o s (cases_eq p q);
        }

-- EVERY ACCEPTED HISTORY

state_at_idle : (at hi : ℕ) → is_running (state_at at hi) ≡ false
state_at_idle at hi =
    elim (nat_eq at hi) as (λ b. is_running (cond b Finished Waiting) ≡ false) [ true ↦ refl | false ↦ refl ]

pub commit_of_row : (j : Journal) (p : ℕ) (r : Row) (o : Option ℕ) (d : Counts) (w : ℕ) → o ≡ Some p → slice_get j.opening p ≡ Some r → is_good_commit j o d w ≡ true → is_commit_of j.item_count (replayed_row j.item_count r (own p j.past)) d w ≡ true
commit_of_row j p r o d w is got h =
    let h' = rw (is, row_of-is j p r got) at h in h'

step_keeps : (j : Journal) (past : List Event) → (e : Event) → refusal (at_past j past) e ≡ None → Consistent j past → Consistent j (e ∷ past)
step_keeps j past (Plan n k) ok old = plan_keeps j past old n k
step_keeps j past (Begin l p) ok old = begin_keeps j past old l p (begin_passes (at_past j past) l p ok)
step_keeps j past (Commit l d w a) ok old =
    let q = (commit_passes (at_past j past) l d w a ok).0 in
    outcome_keeps j past old (Commit l d w a) l q.partition (λ _. refl) refl q.owned refl (λ row. state_at_idle _ _) q.owned
step_keeps j past (Roll l k a) ok old =
    let q = roll_passes (at_past j past) l k a ok in
    outcome_keeps j past old (Roll l k a) l q.partition (λ _. refl) refl q.owned refl (λ row. refl) q.owned
step_keeps j past (Fail l k a) ok old =
    let q = fail_passes (at_past j past) l k a ok in
    outcome_keeps j past old (Fail l k a) l q.partition (λ _. refl) refl q.owned refl (λ row. refl) q.owned
step_keeps j past (Drop l) ok old =
    let q = drop_passes (at_past j past) l ok in
    outcome_keeps j past old (Drop l) l q.partition (λ _. refl) refl q.owned refl (λ row. refl) q.owned
step_keeps j past Round ok old = round_keeps j past old (round_passes (at_past j past) ok).none_runs
step_keeps j past Stop ok old = stop_keeps j past old

pub row_eq_opening : (c : ℕ) (r : Row) → replayed_row c r [] ≡ r
row_eq_opening c r =
    let a : r.at + 0 ≡ r.at = omega arith in
    let b : r.retries + 0 + 0 ≡ r.retries = omega arith in
    let i : r.in_place + 0 ≡ r.in_place = omega arith in
    let d = plus_counts-zero r.counts in
    rw (a, b, d, i) refl

pub opening_consistent : (j : Journal) → IsOpenable j → Consistent j []
opening_consistent j ready =
    record {
      lanes = λ l p h. absurd cc;
      states = λ l p r h o. absurd cc;
      owners = λ l p r o s.
          let i = (ready.idle p r o).1 in
          let t : is_running r.state ≡ true = rw s refl in
          absurd cc;
      below = λ p r o s. let i = (ready.idle p r o).1 in absurd cc;
    }

pub consistent : (j : Journal) → IsOpenable j → (past : List Event) → AcceptedPast j past → Consistent j past
consistent j ready [] ok = opening_consistent j ready
consistent j ready (e ∷ past) ok = step_keeps j past e ok.0 (consistent j ready past ok.1)

-- THE PARTITION THAT AN ACCEPTED EVENT IS ABOUT

some_same : (o : Option ℕ) (p q : ℕ) → o ≡ Some p → o ≡ Some q → p ≡ q
some_same o p q h k = cc

module _ (j : Journal) (past : List Event) (old : Consistent j past) where
  outcome_partition : (l p q : ℕ) → owner l past ≡ Some p → owner l past ≡ Some q → q < length j.opening
  outcome_partition l p q owned part = let e = some_same _ p q owned part in let lt = (old.lanes l p owned).partition in omega (arith, e, lt)

  -- it is there
  pub about : (e : Event) (p : ℕ) → refusal (at_past j past) e ≡ None → partition_of e past ≡ Some p → p < length j.opening
  about (Plan n k) p ok part = absurd cc
  about (Begin l q) p ok part =
      let b = (begin_passes (at_past j past) l q ok).partition in
      let e : q ≡ p = cc in
      omega (arith, b, e)
  about (Commit l d w a) p ok part = let q = (commit_passes (at_past j past) l d w a ok).0 in outcome_partition l q.partition p q.owned part
  about (Roll l k a) p ok part = let q = roll_passes (at_past j past) l k a ok in outcome_partition l q.partition p q.owned part
  about (Fail l k a) p ok part = let q = fail_passes (at_past j past) l k a ok in outcome_partition l q.partition p q.owned part
  about (Drop l) p ok part = let q = drop_passes (at_past j past) l ok in outcome_partition l q.partition p q.owned part
  about Round p ok part = absurd cc
  about Stop p ok part = absurd cc

-- and where its row is sound, it can take the step
module _ (j : Journal) (past : List Event) (old : Consistent j past) (p : ℕ) (r : Row) (opens : slice_get j.opening p ≡ Some r) (sound : IsSoundRow (replayed_row j.item_count r (own p past))) where
  outcome_can : (e : Event) (l : ℕ) → repeats_in e ≤ max_retry_limit → owner l past ≡ Some p → IsCommit j.item_count (replayed_row j.item_count r (own p past)) e → CanStep j.item_count (replayed_row j.item_count r (own p past)) e
  outcome_can e l few owned commit =
      let runs = old.states l p r owned opens in
      record {
        sound = sound;
        unfinished = running-before-end _ l sound runs;
        below_limit = λ _. (old.below p r opens (ap is_running runs)).0;
        few_repeats = (let room = (old.below p r opens (ap is_running runs)).1 in omega (arith, room, few));
        commit = commit;
      }

  pub can : (e : Event) → refusal (at_past j past) e ≡ None → partition_of e past ≡ Some p → CanStep j.item_count (replayed_row j.item_count r (own p past)) e
  can (Plan n k) ok part = absurd cc
  can (Begin l q) ok part =
      let b = begin_passes (at_past j past) l q ok in
      let e : q ≡ p = cc in
      let opens' : slice_get j.opening q ≡ Some r = rw e opens in
      let h : has_ended (replayed_row j.item_count r (own q past)).state ≡ false = rw (row_of-is (at_past j past) q r opens') at b.not_over in
      let h' : has_ended (replayed_row j.item_count r (own p past)).state ≡ false = subst (λ (x : ℕ). has_ended (replayed_row j.item_count r (own x past)).state ≡ false) e h in
      record { sound = sound; unfinished = waiting-before-end _ sound h'; below_limit = λ i. absurd i; few_repeats = (let few = sound.counted.few_repeats in omega (arith, few)); commit = tt }
  can (Commit l d w a) ok part =
      let q = commit_passes (at_past j past) l d w a ok in
      outcome_can (Commit l d w a) l q.2 part (commit_of_row (at_past j past) p r (owner l past) (counts_in d) w part opens q.1)
  can (Roll l k a) ok part = outcome_can (Roll l k a) l (roll_few (at_past j past) l k a ok) part tt
  can (Fail l k a) ok part = outcome_can (Fail l k a) l (fail_few (at_past j past) l k a ok) part tt
  can (Drop l) ok part = outcome_can (Drop l) l (omega arith) part tt
  can Round ok part = absurd cc
  can Stop ok part = absurd cc

-- THE ROWS ARE SOUND

pub some_of : (o : Option ℕ) (p : ℕ) → is_some_of o p ≡ true → o ≡ Some p
some_of None p h = absurd cc
some_of (Some q) p h = ap Some (grind (arith, nat_tests))

module _ (laws : LowerRowLaws) (j : Journal) (ready : IsOpenable j) (p : ℕ) (r : Row) (opens : slice_get j.opening p ≡ Some r) where
  sound_after : (e : Event) (past : List Event) (mine : Bool) → refusal (at_past j past) e ≡ None → AcceptedPast j past → is_some_of (partition_of e past) p ≡ mine → IsSoundRow (replayed_row j.item_count r (own p past))
      → IsSoundRow (replayed_row j.item_count r (cond mine (e ∷ own p past) (own p past)))
  sound_after e past false passes ok is sound = sound
  sound_after e past true passes ok is sound =
      subst IsSoundRow (sym (replayed_row-step j.item_count r e (own p past)))
      (sound-step laws j.item_count (replayed_row j.item_count r (own p past)) ready.some_items e
      (can j past (consistent j ready past ok) p r opens sound e passes (some_of _ p is)))

  pub rows-sound : (past : List Event) → AcceptedPast j past → IsSoundRow (replayed_row j.item_count r (own p past))
  rows-sound [] ok = rw (row_eq_opening j.item_count r) (ready.idle p r opens).0
  rows-sound (e ∷ past) ok = sound_after e past (is_some_of (partition_of e past) p) ok.0 ok.1 refl (rows-sound past ok.1)
