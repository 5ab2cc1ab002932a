-- The laws of accepted histories.
use Rattle.std.proofs.Common.{◌≡◌, ℕ, suc, ◌+◌, ◌<◌, ◌≤◌, Bool, true, false, cond, not, ◌&&◌, ◌||◌, nat_eq, nat_lt, List, [], ◌∷◌, ◌++◌, map, slice_get, Option, Some, None, refl, sym, ◌∙◌, ap, subst, arith}
use Rattle.std.proofs.lemmas.Bool.{ltb-true, and_parts, or_parts, ltb-false}
use Rattle.std.specs.List.{list_all}
use Rattle.jb_repo.specs.declared.deltas.Delta.{Delta}
use Rattle.jb_repo.specs.Deltas.{counts_in}
use Rattle.jb_rules.specs.declared.row.Row.{Row}
use Rattle.jb_rules.specs.declared.row.RowState.{RowState}
use Rattle.jb_rules.specs.declared.row.RowState.TheVariants.{Waiting, Running, Finished, Failed}
use Rattle.jb_cert.specs.declared.certificates.Certificate.{Certificate}
use Rattle.jb_repo.specs.declared.events.Event.{Event}
use Rattle.jb_repo.specs.declared.events.Event.TheVariants.{Plan, Begin, Commit, Roll, Fail, Drop, Round, Stop}
use Rattle.jb_rules.specs.States.{is_running}
use Rattle.jb_repo.specs.History.{owner, own, partition_of, is_some_of, some, number, events_since, is_plan, is_round, ends_plan, is_closed, planned_rounds}
use Rattle.jb_rules.specs.Rows.{state_at}
use Rattle.jb_repo.specs.Rows.{replayed_row, rows_from, at_after, advances, remaining}
use Rattle.jb_repo.specs.inside.LowerLaws.{LowerRowLaws}
use Rattle.jb_cert.specs.Laws.{LeastPlanMeans}
use Rattle.jb_rules.specs.Rows.{row_block}
use Rattle.jb_repo.specs.Table.{Journal, refusal, after, AcceptedPast, row_of, rows_of, reserved}
use Rattle.jb_repo.specs.Openable.{IsOpenable, IsReplayable}
use Rattle.jb_repo.specs.Laws.{with_past, RunsOn, OneLane, OnePartition, RowsShowLanes, LanesAreKnown, RowsAreSound, next_row, RowsLiveOn, committed_blocks, AreConsecutive, CommitsAreConsecutive, without_lane, OrderIsFree, PlansAreLeast, RoundsArePlanned, goes_well, PlansAreRunWhole}
use Rattle.jb_repo.proofs.RowLemmas.{step, replayed_row-step}
use Rattle.jb_repo.proofs.Stepping.{commit_facts, passed-block, next-is, running-before-end}
use Rattle.jb_repo.proofs.Passing.{row_of-is, commit_passes, plan_passes, round_passes}
use Rattle.jb_repo.proofs.Consistent.{Consistent, consistent, at_past, accepted_before, none_owns, commit_of_row, rows-sound, some_of}
use Rattle.jb_repo.proofs.Tables.{at_some, inside, row_sound, has_opening, can_step}

-- LANES

known : (j : Journal) → IsReplayable j → Consistent j j.past
known j law = consistent j law.ready j.past law.accepted

runs_on : (j : Journal) (p l : ℕ) (o : Option Row) → row_of j p ≡ o → RunsOn o l → (row : Row) × (row_of j p ≡ Some row) × (row.state ≡ Running l)
runs_on j p l None is h = absurd h
runs_on j p l (Some row) is h = (row, is, h)

owner_from_row : (j : Journal) → IsReplayable j → (l p : ℕ) → RunsOn (row_of j p) l → owner l j.past ≡ Some p
owner_from_row j law l p h =
    let w = runs_on j p l (row_of j p) refl h in
    let o = has_opening j p w.0 w.1 in
    let s : (replayed_row j.item_count o.opening (own p j.past)).state ≡ Running l = sym (ap (λ (x : Row). x.state) o.becomes) ∙ w.2 in
    (known j law).owners l p o.opening o.opens s

row_from_owner : (j : Journal) → IsReplayable j → (l p : ℕ) → owner l j.past ≡ Some p → RunsOn (row_of j p) l
row_from_owner j law l p h =
    let k = known j law in
    let r = at_some j.opening p (k.lanes l p h).partition in
    subst (λ (x : Option Row). RunsOn x l) (sym (row_of-is j p r.0 r.1)) (k.states l p r.0 h r.1)

pub one_lane : OneLane
one_lane j law k l p a b =
    let c = known j law in
    let r = at_some j.opening p (c.lanes k p a).partition in
    let s = c.states k p r.0 a r.1 in
    let t = c.states l p r.0 b r.1 in
    cc

pub one_partition : OnePartition
one_partition j law l p q a b =
    let s = owner_from_row j law l p a in
    let t = owner_from_row j law l q b in
    cc

pub rows_show_lanes : RowsShowLanes
rows_show_lanes j law l p = (row_from_owner j law l p, owner_from_row j law l p)

pub lanes_are_known : LanesAreKnown
lanes_are_known j law l p owned = let k = (known j law).lanes l p owned in (k.lane, k.partition)

pub rows_are_sound : LowerRowLaws → RowsAreSound
rows_are_sound laws j law p row is = row_sound laws j law.ready law.accepted p row is

-- BLOCKS

still : (r : Row) (own : List Event) → r.at + (advances own + 0) ≡ r.at + advances own
still r own = omega arith

module _ (j : Journal) (p : ℕ) (r : Row) where
  -- one more of the partition's own events keeps them consecutive
  joins : (e : Event) (own : List Event) → ((l : ℕ) (d : Delta) (w a : ℕ) → e ≡ Commit l d w a → (replayed_row j.item_count r own).at + (d.read + d.read_skip) ≡ (row_block j.item_count (replayed_row j.item_count r own)).hi)
      → AreConsecutive r.at (committed_blocks j.item_count r own) (at_after r own) → AreConsecutive r.at (committed_blocks j.item_count r (e ∷ own)) (at_after r (e ∷ own))
  joins (Plan n k) own good h = rw (still r own) h
  joins (Begin l q) own good h = rw (still r own) h
  joins (Commit l d w a) own good h = let passed = good l d w a refl in (omega (arith, passed), h)
  joins (Roll l k a) own good h = rw (still r own) h
  joins (Fail l k a) own good h = rw (still r own) h
  joins (Drop l) own good h = rw (still r own) h
  joins Round own good h = rw (still r own) h
  joins Stop own good h = rw (still r own) h

abbrev pub joined : Journal → ℕ → Row → List Event → Type 0
joined j p r own = AreConsecutive r.at (committed_blocks j.item_count r own) (at_after r own)

module _ (laws : LowerRowLaws) (j : Journal) (ready : IsOpenable j) (p : ℕ) (r : Row) (opens : slice_get j.opening p ≡ Some r) where
  -- an accepted Commit passes the partition's next block
  passed : (past : List Event) → AcceptedPast j past → (l : ℕ) (d : Delta) (w a : ℕ) → refusal (at_past j past) (Commit l d w a) ≡ None → owner l past ≡ Some p
      → (replayed_row j.item_count r (own p past)).at + (d.read + d.read_skip) ≡ (row_block j.item_count (replayed_row j.item_count r (own p past))).hi
  passed past ok l d w a passes owned =
      let sound = rows-sound laws j ready p r opens past ok in
      let runs = (consistent j ready past ok).states l p r owned opens in
      let good = commit_of_row (at_past j past) p r (owner l past) (counts_in d) w owned opens (commit_passes (at_past j past) l d w a passes).1 in
      passed-block laws j.item_count (replayed_row j.item_count r (own p past)) ready.some_items sound (running-before-end _ l sound runs) (counts_in d) w
      (commit_facts laws j.item_count (replayed_row j.item_count r (own p past)) (counts_in d) w good)

  consecutive_at : (e : Event) (past : List Event) → refusal (at_past j past) e ≡ None → AcceptedPast j past → (mine : Bool) → is_some_of (partition_of e past) p ≡ mine → joined j p r (own p past) → joined j p r (cond mine (e ∷ own p past) (own p past))
  consecutive_at e past passes ok false is h = h
  consecutive_at e past passes ok true is h =
      joins j p r e (own p past)
      (λ l d w a same.
      let passes' : refusal (at_past j past) (Commit l d w a) ≡ None = subst (λ (x : Event). refusal (at_past j past) x ≡ None) same passes in
      let owned : partition_of (Commit l d w a) past ≡ Some p = subst (λ (x : Event). partition_of x past ≡ Some p) same (some_of _ p is) in
      passed past ok l d w a passes' owned)
      h

  consecutive : (past : List Event) → AcceptedPast j past → joined j p r (own p past)
  consecutive [] ok = omega arith
  consecutive (e ∷ past) ok =
      consecutive_at e past ok.0 ok.1 (is_some_of (partition_of e past) p) refl (consecutive past ok.1)

pub commits_are_consecutive : LowerRowLaws → CommitsAreConsecutive
commits_are_consecutive laws j law p opening opens = consecutive laws j law.ready p opening opens j.past law.accepted

-- THE LIFE OF A ROW

module _ (laws : LowerRowLaws) (j : Journal) (law : IsReplayable j) (e : Event) (passes : refusal j e ≡ None) (p : ℕ) (row : Row) (is : row_of j p ≡ Some row) where
  changed : (r : Row) (mine : Bool) → row ≡ replayed_row j.item_count r (own p j.past) → is_some_of (partition_of e j.past) p ≡ mine
      → replayed_row j.item_count r (cond mine (e ∷ own p j.past) (own p j.past)) ≡ cond mine (next_row j.item_count row e) row
  changed r true becomes about =
      replayed_row-step j.item_count r e (own p j.past)
      ∙ ap (λ (x : Row). step j.item_count x e) (sym becomes)
      ∙ next-is laws j.item_count row e law.ready.some_items (can_step j law.ready law.accepted e passes laws p row (some_of _ p about) is)
  changed r false becomes about = sym becomes

  lives_on : row_of (after j e) p ≡ Some (cond (is_some_of (partition_of e j.past) p) (next_row j.item_count row e) row)
  lives_on =
      let o = has_opening j p row is in
      row_of-is (after j e) p o.opening o.opens ∙ ap Some (changed o.opening (is_some_of (partition_of e j.past) p) o.becomes refl)

pub rows_live_on : LowerRowLaws → RowsLiveOn
rows_live_on laws j law e passes p row is = lives_on laws j law e passes p row is

-- ORDER

abbrev forget_lane : RowState → RowState
forget_lane Waiting = Waiting
forget_lane (Running l) = Running 0
forget_lane Finished = Finished
forget_lane Failed = Failed

abbrev forget_row : Row → Row
forget_row row = record row { state = forget_lane row.state }

idle_forgets : (state : RowState) → is_running state ≡ false → forget_lane state ≡ state
idle_forgets Waiting h = refl
idle_forgets (Running l) h = absurd cc
idle_forgets Finished h = refl
idle_forgets Failed h = refl

idle_row : (row : Row) → is_running row.state ≡ false → forget_row row ≡ row
idle_row row h = ap (λ (s : RowState). record row { state = s }) (idle_forgets row.state h)

state_at-forgets : (at hi : ℕ) → forget_lane (state_at at hi) ≡ state_at at hi
state_at-forgets at hi = elim (nat_eq at hi) as (λ b. forget_lane (cond b Finished Waiting) ≡ cond b Finished Waiting) [ true ↦ refl | false ↦ refl ]

step-forgets : (c : ℕ) (row : Row) (e : Event) → step c (forget_row row) (without_lane e) ≡ forget_row (step c row e)
step-forgets c row (Plan n k) = refl
step-forgets c row (Begin l p) = refl
step-forgets c row (Commit l d w a) =
    ap (λ (s : RowState). record (step c row (Commit l d w a)) { state = s }) (sym (state_at-forgets (row.at + (d.read + d.read_skip)) row.hi))
step-forgets c row (Roll l k a) = refl
step-forgets c row (Fail l k a) = refl
step-forgets c row (Drop l) = refl
step-forgets c row Round = refl
step-forgets c row Stop = refl

replayed_row-forgets : (c : ℕ) (r : Row) → is_running r.state ≡ false → (own : List Event) → replayed_row c r (map without_lane own) ≡ forget_row (replayed_row c r own)
replayed_row-forgets c r idle [] = sym (idle_row (replayed_row c r []) idle)
replayed_row-forgets c r idle (e ∷ own) =
    replayed_row-step c r (without_lane e) (map without_lane own)
    ∙ ap (λ (x : Row). step c x (without_lane e)) (replayed_row-forgets c r idle own)
    ∙ step-forgets c (replayed_row c r own) e
    ∙ ap forget_row (sym (replayed_row-step c r e own))

not_running : (state : RowState) → ((l : ℕ) → state ≡ Running l → ⊥) → is_running state ≡ false
not_running Waiting h = refl
not_running (Running l) h = absurd (h l refl)
not_running Finished h = refl
not_running Failed h = refl

-- where no lane runs, no row runs
pub none_runs : (j : Journal) → IsReplayable j → reserved j ≡ 0 → (p : ℕ) (r : Row) → slice_get j.opening p ≡ Some r → is_running (replayed_row j.item_count r (own p j.past)).state ≡ false
none_runs j law none p r opens =
    let k = known j law in
    not_running _ (λ l s. let h = k.owners l p r opens s in none_owns j.threads j.past l p none (k.lanes l p h).lane h)

same_row : (j : Journal) (one other : List Event) → IsReplayable (with_past j one) → IsReplayable (with_past j other) → reserved (with_past j one) ≡ 0 → reserved (with_past j other) ≡ 0 → (p : ℕ) (r : Row) → slice_get j.opening p ≡ Some r → map without_lane (own p one) ≡ map without_lane (own p other) → replayed_row j.item_count r (own p one) ≡ replayed_row j.item_count r (own p other)
same_row j one other a b still quiet p r opens same =
    let idle = (a.ready.idle p r opens).1 in
    let x = none_runs (with_past j one) a still p r opens in
    let y = none_runs (with_past j other) b quiet p r opens in
    sym (idle_row (replayed_row j.item_count r (own p one)) x)
    ∙ sym (replayed_row-forgets j.item_count r idle (own p one))
    ∙ ap (replayed_row j.item_count r) same
    ∙ replayed_row-forgets j.item_count r idle (own p other)
    ∙ idle_row (replayed_row j.item_count r (own p other)) y

rows_from-same : (c : ℕ) (one other : List Event) (first : ℕ) (rows : List Row) → ((i : ℕ) (r : Row) → slice_get rows i ≡ Some r → replayed_row c r (own (first + i) one) ≡ replayed_row c r (own (first + i) other)) → rows_from c one first rows ≡ rows_from c other first rows
rows_from-same c one other first [] same = refl
rows_from-same c one other first (r ∷ rows) same =
    let z : first + 0 ≡ first = omega arith in
    let head : replayed_row c r (own first one) ≡ replayed_row c r (own first other) = subst (λ (x : ℕ). replayed_row c r (own x one) ≡ replayed_row c r (own x other)) z (same 0 r refl) in
    let tail = rows_from-same c one other (first + 1) rows (λ i s o.
    let e : first + suc i ≡ first + 1 + i = omega arith in
    subst (λ (x : ℕ). replayed_row c s (own x one) ≡ replayed_row c s (own x other)) e (same (suc i) s o)) in
    ap (λ (x : Row). x ∷ rows_from c one (first + 1) rows) head ∙ ap (λ (xs : List Row). replayed_row c r (own first other) ∷ xs) tail

pub order_is_free : OrderIsFree
order_is_free j one other a b still quiet same =
    rows_from-same j.item_count one other 0 j.opening (λ i r o.
    let z : i ≡ 0 + i = omega arith in
    subst (λ (x : ℕ). replayed_row j.item_count r (own x one) ≡ replayed_row j.item_count r (own x other)) z
    (same_row j one other a b still quiet i r o (same i (inside j.opening i r o))))

-- PLANS

pub plans_are_least : LeastPlanMeans → PlansAreLeast
plans_are_least means j law later past n k is =
    let ok = accepted_before j later (Plan n k ∷ past) (subst (λ (x : List Event). AcceptedPast j x) is law.accepted) in
    let q = plan_passes (at_past j past) n k ok.0 in
    (means (remaining j.item_count (rows_of (with_past j past))) j.threads n k law.ready.some_threads).0 q.good

since-plan : (later past : List Event) (n : ℕ) (k : Certificate) → some is_plan later ≡ false → (events_since is_plan (later ++ Plan n k ∷ past) ≡ later) × (planned_rounds (later ++ Plan n k ∷ past) ≡ n)
since-plan [] past n k none = (refl, refl)
since-plan (e ∷ later) past n k none =
    let f = or_parts (is_plan e) (some is_plan later) none in
    let h = since-plan later past n k f.1 in
    (rw (f.0, h.0) refl, rw f.0 h.1)

one_more : (j : Journal) (e : Event) (later past : List Event) (n : ℕ) (k : Certificate) → refusal (at_past j (later ++ Plan n k ∷ past)) e ≡ None → some is_plan later ≡ false → number is_round later ≤ n → number is_round (e ∷ later) ≤ n
one_more j (Plan m q) later past n k ok none h = omega (arith, h)
one_more j (Begin l p) later past n k ok none h = omega (arith, h)
one_more j (Commit l d w a) later past n k ok none h = omega (arith, h)
one_more j (Roll l q a) later past n k ok none h = omega (arith, h)
one_more j (Fail l q a) later past n k ok none h = omega (arith, h)
one_more j (Drop l) later past n k ok none h = omega (arith, h)
one_more j Stop later past n k ok none h = omega (arith, h)
one_more j Round later past n k ok none h =
    let o = (round_passes (at_past j (later ++ Plan n k ∷ past)) ok).open_plan in
    let t = and_parts _ _ o in
    let s = since-plan later past n k none in
    let lt : number is_round (events_since is_plan (later ++ Plan n k ∷ past)) < planned_rounds (later ++ Plan n k ∷ past) = ltb-true _ _ t.0 in
    let a = ap (number is_round) s.0 in
    let b = s.1 in
    omega (arith, lt, a, b)

rounds_planned : (j : Journal) (later past : List Event) (n : ℕ) (k : Certificate) → AcceptedPast j (later ++ Plan n k ∷ past) → some is_plan later ≡ false → number is_round later ≤ n
rounds_planned j [] past n k ok none = omega arith
rounds_planned j (e ∷ later) past n k ok none =
    let f = or_parts (is_plan e) (some is_plan later) none in
    one_more j e later past n k ok.0 f.1 (rounds_planned j later past n k ok.1 f.1)

pub rounds_are_planned : RoundsArePlanned
rounds_are_planned j law later past n k is none =
    rounds_planned j later past n k (subst (λ (x : List Event). AcceptedPast j x) is law.accepted) none

not_closed : (later : List Event) → some ends_plan later ≡ false → is_closed later ≡ false
not_closed [] none = refl
not_closed (e ∷ later) none =
    let f = or_parts (ends_plan e) (some ends_plan later) none in
    let h = not_closed later f.1 in
    rw (f.1, h) (elim (is_round e) as (λ b. ((b && false) || false) ≡ false) [ true ↦ refl | false ↦ refl ])

-- where all goes well, nothing stands there that begins or ends a plan
no_plan : (e : Event) → goes_well e ≡ true → (is_plan e ≡ false) × (ends_plan e ≡ false)
no_plan (Plan n k) well = absurd cc
no_plan (Begin l p) well = (refl, refl)
no_plan (Commit l d w a) well = (refl, refl)
no_plan (Roll l k a) well = absurd cc
no_plan (Fail l k a) well = absurd cc
no_plan (Drop l) well = absurd cc
no_plan Round well = (refl, refl)
no_plan Stop well = absurd cc

no_plans : (events : List Event) → list_all goes_well events ≡ true → (some is_plan events ≡ false) × (some ends_plan events ≡ false)
no_plans [] well = (refl, refl)
no_plans (e ∷ events) well =
    let both = and_parts (goes_well e) (list_all goes_well events) well in
    let here = no_plan e both.0 in
    let there = no_plans events both.1 in
    (rw (here.0, there.0) refl, rw (here.1, there.1) refl)

and_true : (a : Bool) → (a && true) ≡ false → a ≡ false
and_true true h = h
and_true false h = refl

pub plans_are_run_whole : PlansAreRunWhole
plans_are_run_whole j law between past m n next k is well =
    let none = (no_plans between well).0 in
    let quiet = (no_plans between well).1 in
    let ok = subst (λ (x : List Event). AcceptedPast j x) is law.accepted in
    let q = (plan_passes (at_past j (between ++ Plan n k ∷ past)) m next ok.0).no_plan in
    let s = since-plan between past n k none in
    let c = not_closed between quiet in
    let q' : (nat_lt (number is_round between) n && not (is_closed between)) ≡ false = rw (s.0, s.1) at q in
    let least : n ≤ number is_round between = ltb-false _ _ (and_true (nat_lt (number is_round between) n) (rw c at q')) in
    let most = rounds_planned j between past n k ok.1 none in
    omega (arith, least, most)
