-- The places that are reserved for outcomes.
use Rattle.std.proofs.Common.{◌≡◌, ◌≢◌, ℕ, zero, suc, ◌+◌, ◌<◌, ◌≤◌, Bool, false, cond, nat_eq, is_some, inl, inr, List, ◌∷◌, length, Option, Some, None, refl, ◌∙◌, ap, eq-eqb, arith}
use Rattle.std.proofs.lemmas.Bool.{ne_eqb, cases_eq}
use Rattle.jb_base.specs.Limits.{max_events}
use Rattle.jb_repo.specs.declared.events.Event.{Event}
use Rattle.jb_repo.specs.declared.events.Event.TheVariants.{Plan, Begin, Commit, Roll, Fail, Drop, Round, Stop}
use Rattle.jb_repo.specs.History.{owner, names_lane, begun_by, running, runs}
use Rattle.jb_repo.specs.Table.{Journal, Accepted, refusal, after, reserved}
use Rattle.jb_repo.specs.Answers.{places_of, needed}
use Rattle.jb_repo.specs.Openable.{IsOpenable}
use Rattle.jb_repo.proofs.RowLemmas.{owner-yes, owner-no}
use Rattle.jb_repo.proofs.Consistent.{consistent, lane_free}
use Rattle.jb_repo.proofs.Passing.{BeginPasses, OutcomePasses, plan_passes, begin_passes, commit_passes, roll_passes, fail_passes, drop_passes, round_passes, stop_passes}

-- HOW MANY LANES RUN

abbrev one : Bool → ℕ
one b = cond b 1 0

running-same : (n : ℕ) (e : Event) (past : List Event) → ((k : ℕ) → names_lane k e ≡ false) → running n (e ∷ past) ≡ running n past
running-same zero e past silent = refl
running-same (suc n) e past silent =
    let t = owner-no n e past (silent n) in
    let u = running-same n e past silent in
    rw (t, u) refl

-- only lane l changes
module _ (l : ℕ) (e : Event) (past : List Event) (names : (k : ℕ) → names_lane k e ≡ nat_eq l k) where
  others : (k : ℕ) → l ≢ k → runs k (e ∷ past) ≡ runs k past
  others k ne = ap is_some (owner-no k e past (names k ∙ ne_eqb l k ne))

  running-above : (n : ℕ) → n ≤ l → running n (e ∷ past) ≡ running n past
  running-above zero le = refl
  running-above (suc n) le =
      let t = others n (λ h. absurd (omega arith)) in
      let u = running-above n (omega arith) in
      rw (t, u) refl

  running-one : (n : ℕ) → l < n → running n (e ∷ past) + one (runs l past) ≡ running n past + one (runs l (e ∷ past))
  running-one zero lt = absurd (omega arith)
  running-one (suc n) lt =
      elim (cases_eq l n) [
        | inl same ↦
            let u = running-above n (omega arith) in
            let a : one (runs l past) ≡ one (runs n past) = ap (λ (x : ℕ). one (runs x past)) same in
            let b : one (runs l (e ∷ past)) ≡ one (runs n (e ∷ past)) = ap (λ (x : ℕ). one (runs x (e ∷ past))) same in
            omega (arith, u, a, b)
        | inr ne ↦
            let t : one (runs n (e ∷ past)) ≡ one (runs n past) = ap one (others n ne) in
            let u = running-one n (omega arith) in
            omega (arith, t, u)
      ]

none_runs : (l : ℕ) (past : List Event) → ((q : ℕ) → owner l past ≡ Some q → ⊥) → (o : Option ℕ) → owner l past ≡ o → runs l past ≡ false
none_runs l past free None is = rw is refl
none_runs l past free (Some q) is = absurd (free q is)

-- an accepted event takes one of the places that were reserved or that it asks for; the others stay reserved
module _ (j : Journal) (ready : IsOpenable j) (ok : Accepted j) where
  outcome_places : (e : Event) (l : ℕ) → ((k : ℕ) → names_lane k e ≡ nat_eq l k) → begun_by e ≡ None → OutcomePasses j l → 1 + running j.threads (e ∷ j.past) ≡ running j.threads j.past
  outcome_places e l names begins q =
      let a = running-one l e j.past names j.threads q.lane in
      let b : one (runs l j.past) ≡ 1 = rw q.owned refl in
      let c : one (runs l (e ∷ j.past)) ≡ 0 = rw (owner-yes l e j.past (names l ∙ eq-eqb l l refl), begins) refl in
      omega (arith, a, b, c)

  begin_places : (l p : ℕ) → BeginPasses j l p → running j.threads (Begin l p ∷ j.past) ≡ running j.threads j.past + 1
  begin_places l p q =
      let a = running-one l (Begin l p) j.past (λ _. refl) j.threads q.lane in
      let b : one (runs l j.past) ≡ 0 = ap one (none_runs l j.past (lane_free j j.past (consistent j ready j.past ok) l p q) (owner l j.past) refl) in
      let c : one (runs l (Begin l p ∷ j.past)) ≡ 1 = rw (owner-yes l (Begin l p) j.past (eq-eqb l l refl)) refl in
      omega (arith, a, b, c)

  pub places_after : (e : Event) → refusal j e ≡ None → 1 + reserved (after j e) ≡ reserved j + places_of e
  places_after (Plan n k) passes = let a = running-same j.threads (Plan n k) j.past (λ _. refl) in omega (arith, a)
  places_after (Begin l p) passes = let a = begin_places l p (begin_passes j l p passes) in omega (arith, a)
  places_after (Commit l d w a) passes = let a = outcome_places (Commit l d w a) l (λ _. refl) refl (commit_passes j l d w a passes).0 in omega (arith, a)
  places_after (Roll l k a) passes = let a = outcome_places (Roll l k a) l (λ _. refl) refl (roll_passes j l k a passes) in omega (arith, a)
  places_after (Fail l k a) passes = let a = outcome_places (Fail l k a) l (λ _. refl) refl (fail_passes j l k a passes) in omega (arith, a)
  places_after (Drop l) passes = let a = outcome_places (Drop l) l (λ _. refl) refl (drop_passes j l passes) in omega (arith, a)
  places_after Round passes = let a = running-same j.threads Round j.past (λ _. refl) in omega (arith, a)
  places_after Stop passes = let a = running-same j.threads Stop j.past (λ _. refl) in omega (arith, a)

-- an accepted event leaves the history within its limit, with the outcomes that are still to come
pub needed_few : (j : Journal) (e : Event) → refusal j e ≡ None → length j.past + reserved j ≤ max_events → needed j e ≤ max_events
needed_few j (Plan n k) passes few = (plan_passes j n k passes).room
needed_few j (Begin l p) passes few = (begin_passes j l p passes).room
needed_few j (Commit l d w a) passes few = omega (arith, few)
needed_few j (Roll l k a) passes few = omega (arith, few)
needed_few j (Fail l k a) passes few = omega (arith, few)
needed_few j (Drop l) passes few = omega (arith, few)
needed_few j Round passes few = (round_passes j passes).room
needed_few j Stop passes few = stop_passes j passes

pub one_more : (j : Journal) → IsOpenable j → Accepted j → (e : Event) → refusal j e ≡ None → needed j e ≤ max_events → length j.past < max_events
one_more j ready ok e passes few = omega (arith, few, places_after j ready ok e passes)
