-- How a plan's first fault is found: slot by slot, by counts of the chunks so far.
use Rattle.std.proofs.Common.{◌≡◌, ◌≢◌, ℕ, suc, ◌+◌, ◌<◌, ◌≤◌, Bool, true, false, cond, not, eqb, ltb, ◌&&◌, List, [], ◌∷◌, ◌++◌, length, get_or, take, drop, map, slice_index, Option, Some, None, sym, ◌∙◌, refl, ap, ap₂, subst, inl, inr, arith, set, get_or-set_same, get_or-set_other, eq-eqb, ne_eqb, Vec, Global}
use Rattle.std.specs.List.{list_any, list_all, range_with_len}
use Rattle.std.proofs.lemmas.Bool.{cases_eq, false_from_ne_true, or_parts}
use Rattle.std.proofs.lemmas.Bool.Decides.{nat_tests}
use Rattle.std.proofs.lemmas.List.{at_drop_more, at_drop_all, take_more, length-map, get_or-map}
use Rattle.std.proofs.lemmas.List.Sums.{sum_by-cons, sum_by_more, AllPass-from_list_all, list_all-from_AllPass}
use Rattle.std.proofs.lemmas.List.FromFn.{length-range_with_len}
use Rattle.jb_cert.specs.declared.plans.Slot.{Slot}
use Rattle.jb_cert.specs.declared.plans.PlanFault.{PlanFault}
use Rattle.jb_cert.specs.declared.plans.PlanFault.TheVariants.{LaneRange, TwiceInRound, OutOfOrder, Missing, Stranger}
use Rattle.jb_cert.specs.Faults.{slots_of, slots_in_all, has_lane, is_chunk_of, collides, missing_fault}
use Rattle.jb_cert.specs.inside.Walk.{fault_here, first_of_two, fault_in_round, fault_after, found_fault}
use Rattle.jb_cert.proofs.Sets.{get_or-range}

-- what stands past the end of a round
abbrev pub no_slot : Slot
no_slot = record { lane = 0; partition = 0; chunk = 0 }

abbrev pub one_if : Bool → ℕ
one_if b = cond b 1 0

-- ---- only the count of the slot's own partition matters

abbrev pub by_tests : Bool → Bool → Bool → Bool → Option PlanFault
by_tests lane known twice next =
    cond (not lane) (Some LaneRange) (cond (not known) (Some Stranger) (cond twice (Some TwiceInRound) (cond next None (Some OutOfOrder))))

by_tests-same : (lane known twice : Bool) (chunk f g : ℕ) → (known ≡ true → twice ≡ false → f ≡ g) → by_tests lane known twice (eqb chunk f) ≡ by_tests lane known twice (eqb chunk g)
by_tests-same false known twice chunk f g same = refl
by_tests-same true false twice chunk f g same = refl
by_tests-same true true true chunk f g same = refl
by_tests-same true true false chunk f g same = ap (λ n. by_tests true true false (eqb chunk n)) (same refl refl)

pub fault_here-same : (counts : List ℕ) (threads : ℕ) (f g : ℕ → ℕ) (here : List Slot) (slot : Slot) → (is_chunk_of counts slot ≡ true → list_any (collides slot) here ≡ false → f slot.partition ≡ g slot.partition) → fault_here counts threads f here slot ≡ fault_here counts threads g here slot
fault_here-same counts threads f g here slot same =
    by_tests-same (has_lane threads slot) (is_chunk_of counts slot) (list_any (collides slot) here) slot.chunk (f slot.partition) (g slot.partition) same

known_partition : (a n c k : ℕ) → (ltb a n && ltb c k) ≡ true → (a < n) × (c < k)
known_partition a n c k is = (grind (arith, nat_tests), grind (arith, nat_tests))

pub known_parts : (counts : List ℕ) (slot : Slot) → is_chunk_of counts slot ≡ true → (slot.partition < length counts) × (slot.chunk < slice_index counts slot.partition)
known_parts counts slot is = known_partition slot.partition (length counts) slot.chunk (slice_index counts slot.partition) is

pub fault_in_round-same : (counts : List ℕ) (threads : ℕ) (f g : ℕ → ℕ) → ((p : ℕ) → p < length counts → f p ≡ g p) → (here rest : List Slot) → fault_in_round counts threads f here rest ≡ fault_in_round counts threads g here rest
fault_in_round-same counts threads f g same here [] = refl
fault_in_round-same counts threads f g same here (slot ∷ rest) =
    ap₂ first_of_two
    (fault_here-same counts threads f g here slot (λ known apart. same slot.partition (known_parts counts slot known).0))
    (fault_in_round-same counts threads f g same (here ++ slot ∷ []) rest)

-- ---- the end

all_of_range : (test : ℕ → Bool) (n : ℕ) → ((p : ℕ) → p < n → test p ≡ true) → list_all test (range_with_len 0 n) ≡ true
all_of_range test n each =
    list_all-from_AllPass test (range_with_len 0 n) (λ k d within.
    let short : k < n = omega (arith, within, length-range_with_len 0 n) in
    ap test (get_or-range n k d short) ∙ each k short)

pub at_range : (test : ℕ → Bool) (n : ℕ) → list_all test (range_with_len 0 n) ≡ true → (p : ℕ) → p < n → test p ≡ true
at_range test n all p within =
    sym (ap test (get_or-range n p 0 within)) ∙ AllPass-from_list_all test (range_with_len 0 n) all p 0 (omega (arith, within, length-range_with_len 0 n))

same_test : (a b c : ℕ) → a ≡ b → eqb a c ≡ eqb b c
same_test a b c is = ap (λ n. eqb n c) is

pub nothing_missing : (counts : List ℕ) (ran : ℕ → ℕ) → ((p : ℕ) → p < length counts → ran p ≡ slice_index counts p) → missing_fault counts ran ≡ None
nothing_missing counts ran each =
    ap (λ b. cond b None (Some Missing)) (all_of_range (λ p. eqb (ran p) (slice_index counts p)) (length counts) (λ p within.
    let is : ran p ≡ slice_index counts p = each p within in
    grind (arith, nat_tests)))

something_missing : (a b : ℕ) → a ≢ b → eqb a b ≡ true → ⊥
something_missing a b differs is = grind (arith, nat_tests)

pub one_missing : (counts : List ℕ) (ran : ℕ → ℕ) (p : ℕ) → p < length counts → ran p ≢ slice_index counts p → missing_fault counts ran ≡ Some Missing
one_missing counts ran p within differs =
    ap (λ b. cond b None (Some Missing)) (false_from_ne_true (list_all (λ q. eqb (ran q) (slice_index counts q)) (range_with_len 0 (length counts))) (λ all.
    something_missing (ran p) (slice_index counts p) differs (at_range (λ q. eqb (ran q) (slice_index counts q)) (length counts) all p within)))

list_all-same : {X : Type 0} (s t : X → Bool) (xs : List X) → ((k : ℕ) (d : X) → k < length xs → s (get_or xs k d) ≡ t (get_or xs k d)) → list_all s xs ≡ list_all t xs
list_all-same s t [] same = refl
list_all-same s t (x ∷ xs) same =
    ap₂ ◌&&◌ (same 0 x (omega arith)) (list_all-same s t xs (λ k d within. same (suc k) d (omega arith)))

pub missing_fault-same : (counts : List ℕ) (f g : ℕ → ℕ) → ((p : ℕ) → p < length counts → f p ≡ g p) → missing_fault counts f ≡ missing_fault counts g
missing_fault-same counts f g same =
    ap (λ b. cond b None (Some Missing)) (list_all-same (λ p. eqb (f p) (slice_index counts p)) (λ p. eqb (g p) (slice_index counts p)) (range_with_len 0 (length counts)) (λ k d within.
    let short : k < length counts = omega (arith, within, length-range_with_len 0 (length counts)) in
    let is : get_or (range_with_len 0 (length counts)) k d ≡ k = get_or-range (length counts) k d short in
    let known : get_or (range_with_len 0 (length counts)) k d < length counts = omega arith in
    ap (λ n. eqb n (slice_index counts (get_or (range_with_len 0 (length counts)) k d))) (same (get_or (range_with_len 0 (length counts)) k d) known)))

-- ---- one slot more of a round

pub round_step : (counts : List ℕ) (threads : ℕ) (ran : ℕ → ℕ) (round : List Slot) (i : ℕ) (d : Slot) → i < length round → fault_in_round counts threads ran (take i round) (drop i round) ≡ first_of_two (fault_here counts threads ran (take i round) (get_or round i d)) (fault_in_round counts threads ran (take (i + 1) round) (drop (i + 1) round))
round_step counts threads ran round i d within =
    at_drop_more (fault_in_round counts threads ran (take i round)) round i d within
    ∙ ap (λ (here : List Slot). first_of_two (fault_here counts threads ran (take i round) (get_or round i d)) (fault_in_round counts threads ran here (drop (i + 1) round))) (sym (take_more round i d within))

pub round_end : (counts : List ℕ) (threads : ℕ) (ran : ℕ → ℕ) (round : List Slot) (i : ℕ) → length round ≤ i → fault_in_round counts threads ran (take i round) (drop i round) ≡ None
round_end counts threads ran round i past = at_drop_all (fault_in_round counts threads ran (take i round)) round i past

-- where no slot of the round collides, none is of the slot's partition
none_of_partition : (slot : Slot) (here : List Slot) → list_any (collides slot) here ≡ false → slots_of slot.partition here ≡ 0
none_of_partition slot [] none = refl
none_of_partition slot (other ∷ rest) none =
    let parts = or_parts (collides slot other) (list_any (collides slot) rest) none in
    let apart : eqb other.partition slot.partition ≡ false = (or_parts (eqb other.lane slot.lane) (eqb other.partition slot.partition) parts.0).1 in
    let none_here : one_if (eqb other.partition slot.partition) ≡ 0 = ap one_if apart in
    omega (arith, sum_by-cons (λ (s : Slot). cond (eqb s.partition slot.partition) 1 0) other rest, none_here, none_of_partition slot rest parts.1)

pub fault_here-so_far : (counts : List ℕ) (threads : ℕ) (ran now : ℕ → ℕ) (here : List Slot) (slot : Slot) → ((p : ℕ) → p < length counts → now p ≡ ran p + slots_of p here) → fault_here counts threads now here slot ≡ fault_here counts threads ran here slot
fault_here-so_far counts threads ran now here slot so_far =
    fault_here-same counts threads now ran here slot (λ known apart.
    omega (arith, so_far slot.partition (known_parts counts slot known).0, none_of_partition slot here apart))

pub slots_of-more : (p : ℕ) (round : List Slot) (i : ℕ) (d : Slot) → i < length round → slots_of p (take (i + 1) round) ≡ slots_of p (take i round) + cond (eqb (get_or round i d).partition p) 1 0
slots_of-more p round i d within = sum_by_more (λ (s : Slot). cond (eqb s.partition p) 1 0) round i d within

-- the counts after the slot at i was counted: y is the list with one more at the slot's partition
pub ran_more : (ran : ℕ → ℕ) (xs : List ℕ) (round : List Slot) (i : ℕ) (d : Slot) → i < length round → (get_or round i d).partition < length xs → (p : ℕ) → get_or xs p 0 ≡ ran p + slots_of p (take i round) → get_or (set xs (get_or round i d).partition (get_or xs (get_or round i d).partition 0 + 1)) p 0 ≡ ran p + slots_of p (take (i + 1) round)
ran_more ran xs round i d within known p so_far =
    let q : ℕ = (get_or round i d).partition in
    let more = slots_of-more p round i d within in
    elim (cases_eq p q) [
      | inl same ↦
          let one : one_if (eqb q p) ≡ 1 = ap one_if (eq-eqb q p (sym same)) in
          let here : get_or (set xs q (get_or xs q 0 + 1)) p 0 ≡ get_or xs p 0 + 1 =
          subst (λ (k : ℕ). get_or (set xs q (get_or xs q 0 + 1)) k 0 ≡ get_or xs k 0 + 1) (sym same) (get_or-set_same xs q (get_or xs q 0 + 1) 0 known) in
          omega (arith, here, more, one, so_far)
      | inr other ↦
          let none : one_if (eqb q p) ≡ 0 = ap one_if (ne_eqb q p (λ e. other (sym e))) in
          let here : get_or (set xs q (get_or xs q 0 + 1)) p 0 ≡ get_or xs p 0 = get_or-set_other xs q p (get_or xs q 0 + 1) 0 other in
          omega (arith, here, more, none, so_far)
    ]

-- ---- the loop over a round: at slot i, with what ran before the round and what has run by now

module _ (counts : List ℕ) (threads : ℕ) (ran now : ℕ → ℕ) (round : List Slot) (i : ℕ) (d : Slot) (within : i < length round) (so_far : (p : ℕ) → p < length counts → now p ≡ ran p + slots_of p (take i round)) where
  -- a slot at fault is the round's first fault
  pub round_fault : (f : PlanFault) → Some f ≡ fault_here counts threads now (take i round) (get_or round i d) → fault_in_round counts threads ran (take i round) (drop i round) ≡ fault_in_round counts threads ran [] round → fault_in_round counts threads ran [] round ≡ Some f
  round_fault f judged all =
      let here : fault_here counts threads ran (take i round) (get_or round i d) ≡ Some f =
      sym (fault_here-so_far counts threads ran now (take i round) (get_or round i d) so_far) ∙ sym judged in
      sym all ∙ round_step counts threads ran round i d within
      ∙ ap (λ (o : Option PlanFault). first_of_two o (fault_in_round counts threads ran (take (i + 1) round) (drop (i + 1) round))) here

  -- a slot that is not leaves the rest to be judged
  pub round_more : None ≡ fault_here counts threads now (take i round) (get_or round i d) → fault_in_round counts threads ran (take i round) (drop i round) ≡ fault_in_round counts threads ran [] round → fault_in_round counts threads ran (take (i + 1) round) (drop (i + 1) round) ≡ fault_in_round counts threads ran [] round
  round_more judged all =
      let here : fault_here counts threads ran (take i round) (get_or round i d) ≡ None =
      sym (fault_here-so_far counts threads ran now (take i round) (get_or round i d) so_far) ∙ sym judged in
      sym (ap (λ (o : Option PlanFault). first_of_two o (fault_in_round counts threads ran (take (i + 1) round) (drop (i + 1) round))) here)
      ∙ sym (round_step counts threads ran round i d within) ∙ all

-- ---- the loop over the rounds

pub rounds_step : (counts : List ℕ) (threads : ℕ) (rounds : List (List Slot)) (i : ℕ) → i < length rounds → fault_after counts threads (take i rounds) (drop i rounds) ≡ first_of_two (fault_in_round counts threads (λ p. slots_in_all p (take i rounds)) [] (get_or rounds i [])) (fault_after counts threads (take (i + 1) rounds) (drop (i + 1) rounds))
rounds_step counts threads rounds i within =
    at_drop_more (fault_after counts threads (take i rounds)) rounds i [] within
    ∙ ap (λ (before : List (List Slot)). first_of_two (fault_in_round counts threads (λ p. slots_in_all p (take i rounds)) [] (get_or rounds i [])) (fault_after counts threads before (drop (i + 1) rounds))) (sym (take_more rounds i [] within))

module _ (counts : List ℕ) (threads : ℕ) (now : ℕ → ℕ) (rounds : List (List Slot)) (i : ℕ) (so_far : (p : ℕ) → p < length counts → now p ≡ slots_in_all p (take i rounds)) where
  judged_now : (round : List Slot) → fault_in_round counts threads now [] round ≡ fault_in_round counts threads (λ p. slots_in_all p (take i rounds)) [] round
  judged_now round = fault_in_round-same counts threads now (λ p. slots_in_all p (take i rounds)) so_far [] round

  pub plan_fault : (f : PlanFault) → i < length rounds → Some f ≡ fault_in_round counts threads now [] (get_or rounds i []) → fault_after counts threads (take i rounds) (drop i rounds) ≡ found_fault counts threads rounds → found_fault counts threads rounds ≡ Some f
  plan_fault f within judged all =
      let here : fault_in_round counts threads (λ p. slots_in_all p (take i rounds)) [] (get_or rounds i []) ≡ Some f = sym (judged_now (get_or rounds i [])) ∙ sym judged in
      sym all ∙ rounds_step counts threads rounds i within ∙ ap (λ (o : Option PlanFault). first_of_two o (fault_after counts threads (take (i + 1) rounds) (drop (i + 1) rounds))) here

  pub plan_more : i < length rounds → None ≡ fault_in_round counts threads now [] (get_or rounds i []) → fault_after counts threads (take i rounds) (drop i rounds) ≡ found_fault counts threads rounds → fault_after counts threads (take (i + 1) rounds) (drop (i + 1) rounds) ≡ found_fault counts threads rounds
  plan_more within judged all =
      let here : fault_in_round counts threads (λ p. slots_in_all p (take i rounds)) [] (get_or rounds i []) ≡ None = sym (judged_now (get_or rounds i [])) ∙ sym judged in
      sym (ap (λ (o : Option PlanFault). first_of_two o (fault_after counts threads (take (i + 1) rounds) (drop (i + 1) rounds))) here) ∙ sym (rounds_step counts threads rounds i within) ∙ all

  pub plan_end : length rounds ≤ i → fault_after counts threads (take i rounds) (drop i rounds) ≡ found_fault counts threads rounds → missing_fault counts now ≡ found_fault counts threads rounds
  plan_end past all =
      missing_fault-same counts now (λ p. slots_in_all p (take i rounds)) so_far
      ∙ sym (at_drop_all (fault_after counts threads (take i rounds)) rounds i past) ∙ all

pub slots_in_all-more : (p : ℕ) (rounds : List (List Slot)) (i : ℕ) → i < length rounds → slots_in_all p (take (i + 1) rounds) ≡ slots_in_all p (take i rounds) + slots_of p (get_or rounds i [])
slots_in_all-more p rounds i within = sum_by_more (slots_of p) rounds i [] within

-- the round that a loop over the plan's vectors reads
pub round_read : (items read : List (Vec Slot Global)) (i : ℕ) (x : Vec Slot Global) (slots : List Slot) → read ≡ items → i < length read → x ≡ get_or read i x → slots ≡ x.items → (i < length (map (λ (r : Vec Slot Global). r.items) items)) × (slots ≡ get_or (map (λ (r : Vec Slot Global). r.items) items) i [])
round_read items read i x slots same within is slots_are =
    let short : i < length items = omega (arith, within, ap length same) in
    let at : x ≡ get_or items i x = is ∙ ap (λ (xs : List (Vec Slot Global)). get_or xs i x) same in (
      omega (arith, short, length-map items (λ (r : Vec Slot Global). r.items)),
      slots_are ∙ ap (λ (r : Vec Slot Global). r.items) at ∙ sym (get_or-map (λ (r : Vec Slot Global). r.items) items i x [] short),
    )
