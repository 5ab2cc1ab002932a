-- Which Plans, Rounds, Stops and Commits are accepted, and which are refused for what they say.
use Rattle.std.proofs.Common.{◌≡◌, ℕ, ◌+◌, ◌-◌, ◌<◌, ◌≤◌, ◌↔◌, Bool, true, false, not, ◌||◌, nat_le, nat_lt, [], ◌∷◌, length, Some, None, refl, sym, ◌∙◌, arith}
use Rattle.std.proofs.lemmas.Bool.Decides.{nat_tests}
use Rattle.std.proofs.lemmas.Bool.{or_parts, not-true, eq-eqb}
use Rattle.jb_repo.specs.declared.deltas.Delta.{Delta}
use Rattle.jb_repo.specs.Deltas.{counts_in}
use Rattle.jb_rules.specs.declared.row.Row.{Row}
use Rattle.jb_rules.specs.Rows.{row_block}
use Rattle.jb_cert.specs.declared.certificates.Certificate.{Certificate}
use Rattle.jb_cert.specs.Laws.{LeastPlanMeans}
use Rattle.jb_repo.specs.declared.events.Event.TheVariants.{Plan, Commit, Round}
use Rattle.jb_base.specs.Limits.{max_events, max_retry_limit}
use Rattle.jb_repo.specs.declared.refused.Refused.TheVariants.{Stopping, LaneRange, NotRunning, BadDelta, StillRunning, BadPlan, Full}
use Rattle.jb_repo.specs.History.{owner, is_stopping, is_plan_open}
use Rattle.jb_repo.specs.Rows.{remaining}
use Rattle.jb_repo.specs.Table.{Journal, refusal, first_refusal, outcome_conditions, undone_conditions, row_of, rows_of, reserved, is_full, is_good_plan, is_commit_of}
use Rattle.jb_repo.specs.Openable.{IsReplayable}
use Rattle.jb_repo.specs.Laws.{MayPlan, IsCertified, GoodPlansAreAccepted, BadPlansAreRefused, MayEndRound, GoodRoundsAreAccepted, PlacedStopsAreAccepted, IsCommitOfNext, GoodCommitsAreAccepted, BadCommitsAreRefused, RunningLanesMayEnd}
use Rattle.jb_repo.specs.inside.LowerLaws.{LowerRowLaws}
use Rattle.jb_repo.proofs.Consistent.{consistent}
use Rattle.jb_repo.proofs.Passing.{none_below, plan_passes, round_passes, stop_passes}
use Rattle.jb_repo.proofs.Stepping.{commit_facts}

-- PLANS

-- the third condition is the first that holds
third : (a b c d : Bool) → first_refusal ((a, Stopping) ∷ (b, StillRunning) ∷ (c, BadPlan) ∷ (d, Full) ∷ []) ≡ Some BadPlan → (a ≡ false) × (b ≡ false) × (c ≡ true)
third true b c d h = absurd cc
third false true c d h = absurd cc
third false false true d h = (refl, refl, refl)
third false false false true h = absurd cc
third false false false false h = absurd cc

may_plan : (j : Journal) → is_stopping j.past ≡ false → (nat_lt 0 (reserved j) || is_plan_open j.past) ≡ false → MayPlan j
may_plan j stops runs =
    let f = or_parts (nat_lt 0 (reserved j)) (is_plan_open j.past) runs in
    record { not_stopping = stops; none_runs = none_below (reserved j) f.0; none_open = f.1 }

none_yet : (j : Journal) → MayPlan j → (nat_lt 0 (reserved j) || is_plan_open j.past) ≡ false
none_yet j may = let a = may.none_runs in let b = may.none_open in rw (a, b) refl

uncertified : (good : Bool) → ((good ≡ true) → ⊥) → good ≡ false
uncertified true h = absurd (h refl)
uncertified false h = refl

module _ (means : LeastPlanMeans) (j : Journal) (law : IsReplayable j) (n : ℕ) (k : Certificate) where
  certified : is_good_plan j n k ≡ true → IsCertified j n k
  certified good = (means (remaining j.item_count (rows_of j)) j.threads n k law.ready.some_threads).0 good

  good_plan : IsCertified j n k → is_good_plan j n k ≡ true
  good_plan both = (means (remaining j.item_count (rows_of j)) j.threads n k law.ready.some_threads).1 both

  is_bad : refusal j (Plan n k) ≡ Some BadPlan → MayPlan j × (IsCertified j n k → ⊥)
  is_bad h =
      let t = third (is_stopping j.past) (nat_lt 0 (reserved j) || is_plan_open j.past) (not (is_good_plan j n k)) (is_full j 1) h in
      (may_plan j t.0 t.1, λ both. let g = good_plan both in let b = not-true (is_good_plan j n k) t.2 in cc)

  becomes_bad : MayPlan j × (IsCertified j n k → ⊥) → refusal j (Plan n k) ≡ Some BadPlan
  becomes_bad h =
      let may = h.0 in
      let a = may.not_stopping in
      let b = none_yet j may in
      let c = uncertified (is_good_plan j n k) (λ good. h.1 (certified good)) in
      rw (a, b, c) refl

  is_good : refusal j (Plan n k) ≡ None → MayPlan j × IsCertified j n k × (length j.past < max_events)
  is_good h =
      let q = plan_passes j n k h in
      (record { not_stopping = q.not_stopping; none_runs = q.none_runs; none_open = q.no_plan }, certified q.good, omega (arith, q.room))

  room : MayPlan j → length j.past < max_events → is_full j 1 ≡ false
  room may lt =
      let some : length j.past + reserved j + 1 ≤ max_events = omega (arith, lt, may.none_runs) in
      grind (arith, nat_tests)

  becomes_good : MayPlan j × IsCertified j n k × (length j.past < max_events) → refusal j (Plan n k) ≡ None
  becomes_good h =
      let may = h.0 in
      let a = may.not_stopping in
      let b = none_yet j may in
      let c = good_plan h.1 in
      let d = room may h.2 in
      rw (a, b, c, d) refl

pub good_plans_are_accepted : LeastPlanMeans → GoodPlansAreAccepted
good_plans_are_accepted means j law n k = (is_good means j law n k, becomes_good means j law n k)

pub bad_plans_are_refused : LeastPlanMeans → BadPlansAreRefused
bad_plans_are_refused means j law n k = (is_bad means j law n k, becomes_bad means j law n k)

-- ROUNDS AND STOPS

has_place : (j : Journal) → length j.past + reserved j < max_events → is_full j 1 ≡ false
has_place j lt = grind (arith, nat_tests)

round_ends : (j : Journal) → MayEndRound j × (length j.past < max_events) → refusal j Round ≡ None
round_ends j h =
    let may = h.0 in
    let a : nat_lt 0 (reserved j) ≡ false = (let none = may.none_runs in rw none refl) in
    let b = may.one_open in
    let c = has_place j (let none = may.none_runs in omega (arith, h.1, none)) in
    rw (a, b, c) refl

pub good_rounds_are_accepted : GoodRoundsAreAccepted
good_rounds_are_accepted j = (
  λ h. let q = round_passes j h in (record { none_runs = q.none_runs; one_open = q.open_plan }, omega (arith, q.room)),
  round_ends j,
)

pub placed_stops_are_accepted : PlacedStopsAreAccepted
placed_stops_are_accepted j = (
  λ h. let room = stop_passes j h in omega (arith, room),
  λ lt. let room = has_place j lt in rw room refl,
)

-- COMMITS

or_none : (b : Bool) → (b || false) ≡ b
or_none true = refl
or_none false = refl

-- of a lane that there is and that runs, only the third condition may hold
last_of_three : (good : Bool) → first_refusal ((false, LaneRange) ∷ (false, NotRunning) ∷ (not good, BadDelta) ∷ []) ≡ None → good ≡ true
last_of_three true h = refl
last_of_three false h = absurd cc

is_third : (good : Bool) → first_refusal ((false, LaneRange) ∷ (false, NotRunning) ∷ (not good, BadDelta) ∷ []) ≡ Some BadDelta → good ≡ false
is_third true h = absurd cc
is_third false h = refl

lane_there : (threads lane : ℕ) → lane < threads → nat_le threads lane ≡ false
lane_there threads lane lt = grind (arith, nat_tests)

not_more : (again : ℕ) → again ≤ max_retry_limit → nat_lt max_retry_limit again ≡ false
not_more again few = grind (arith, nat_tests)

-- where neither condition of an outcome holds, it is accepted
pub running_lanes_may_end : RunningLanesMayEnd
running_lanes_may_end j law l p owned =
    let there = lane_there j.threads l ((consistent j law.ready j.past law.accepted).lanes l p owned).lane in
    let accepted : first_refusal (outcome_conditions j l) ≡ None = rw (there, owned) refl in
    let undone : (again : ℕ) → again ≤ max_retry_limit → first_refusal (undone_conditions j l again) ≡ None =
    λ again few. (let enough = not_more again few in rw (there, owned, enough) refl) in
    record { rolled = λ class again few. undone again few; failed = λ class again few. undone again few; dropped = accepted }

module _ (laws : LowerRowLaws) (j : Journal) (law : IsReplayable j) (l p : ℕ) (row : Row) (owned : owner l j.past ≡ Some p) (is : row_of j p ≡ Some row) (d : Delta) (w a : ℕ) (few : a ≤ max_retry_limit) where
  judged : refusal j (Commit l d w a) ≡ first_refusal ((false, LaneRange) ∷ (false, NotRunning) ∷ (not (is_commit_of j.item_count row (counts_in d) w), BadDelta) ∷ [])
  judged =
      let enough = not_more a few in
      let there = lane_there j.threads l ((consistent j law.ready j.past law.accepted).lanes l p owned).lane in
      rw (there, owned, is, enough, or_none (not (is_commit_of j.item_count row (counts_in d) w))) refl

  commit_of_next : is_commit_of j.item_count row (counts_in d) w ≡ true → IsCommitOfNext j.item_count row (counts_in d) w
  commit_of_next good = let k = commit_facts laws j.item_count row (counts_in d) w good in (k.delta, k.written)

  good_commit : IsCommitOfNext j.item_count row (counts_in d) w → is_commit_of j.item_count row (counts_in d) w ≡ true
  good_commit h =
      let delta = (laws.deltas ((row_block j.item_count row).hi - row.at) (counts_in d)).1 h.0 in
      let number = eq-eqb w (row.written + d.write) h.1 in
      rw (delta, number) refl

  accepted : (refusal j (Commit l d w a) ≡ None) ↔ IsCommitOfNext j.item_count row (counts_in d) w
  accepted = (
    λ h. commit_of_next (last_of_three (is_commit_of j.item_count row (counts_in d) w) (sym judged ∙ h)),
    λ h. let good = good_commit h in judged ∙ rw good refl,
  )

  refused : (refusal j (Commit l d w a) ≡ Some BadDelta) ↔ (IsCommitOfNext j.item_count row (counts_in d) w → ⊥)
  refused = (
    λ h k. let good = good_commit k in let bad = is_third (is_commit_of j.item_count row (counts_in d) w) (sym judged ∙ h) in cc,
    λ h. let bad = uncertified (is_commit_of j.item_count row (counts_in d) w) (λ good. h (commit_of_next good)) in judged ∙ rw bad refl,
  )

pub good_commits_are_accepted : LowerRowLaws → GoodCommitsAreAccepted
good_commits_are_accepted laws j law l p row owned is d w a few = accepted laws j law l p row owned is d w a few

pub bad_commits_are_refused : LowerRowLaws → BadCommitsAreRefused
bad_commits_are_refused laws j law l p row owned is d w a few = refused laws j law l p row owned is d w a few
