-- A plan is faultless exactly where it stands for a lawful one.
use Rattle.std.proofs.Common.{◌≡◌, ◌≢◌, ◌⊎◌, ℕ, zero, suc, ◌+◌, ◌<◌, ◌≤◌, eqb, ltb, List, [], ◌∷◌, length, get_or, take, map, slice_index, count_by, sum_by, All, AllPairs, Contains, sym, ◌∙◌, refl, ap, subst, inl, inr, arith, add-one, length-take-le, take-take, le_refl, le_antisymm, add-zero, None, ◌-◌}
use Rattle.std.proofs.lemmas.Bool.{cases_lt, cases_eq}
use Rattle.std.proofs.lemmas.Bool.Decides.{nat_tests}
use Rattle.std.proofs.lemmas.List.{get_or-map, length-map, take_all, get_or-take, get_or_default}
use Rattle.std.proofs.lemmas.List.Sums.{sum_by-cons, sum_by-take-le}
use Rattle.std.proofs.lemmas.List.Elements.{All-from_get_or}
use Rattle.jb_cert.specs.declared.plans.Slot.{Slot}
use Rattle.jb_cert.specs.Lawful.{Pair, StandsIn, HasOnePerPartition, IsLawful}
use Rattle.jb_cert.specs.Plans.{slot_pair, sets_of, StandsForLawful}
use Rattle.jb_cert.specs.Faults.{slots_of, slots_in_all}
use Rattle.jb_cert.specs.inside.Walk.{found_fault}
use Rattle.jb_cert.proofs.Judged.{no_slot, one_if, slots_in_all-more}
use Rattle.jb_cert.proofs.NoFault.{IsGood, AreGood, IsFaultless, faultless_from_none, none_from_faultless}

-- ---- counts of slots with one number, as a lane or a partition

abbrev count_at : (Slot → ℕ) → ℕ → List Slot → ℕ
count_at f n slots = count_by (λ slot. eqb (f slot) n) slots

count_at-cons : (f : Slot → ℕ) (n : ℕ) (slot : Slot) (rest : List Slot) → count_at f n (slot ∷ rest) ≡ one_if (eqb (f slot) n) + count_at f n rest
count_at-cons f n slot rest = sum_by-cons (λ (s : Slot). one_if (eqb (f s) n)) slot rest

one_if_eq : (a b : ℕ) → ((a ≡ b) × (one_if (eqb a b) ≡ 1)) ⊎ ((a ≢ b) × (one_if (eqb a b) ≡ 0))
one_if_eq a b = elim (cases_eq a b) [
  | inl same ↦ inl (same, grind (arith, nat_tests))
  | inr other ↦ inr (other, grind (arith, nat_tests))
]

none_at : (f : Slot → ℕ) (n : ℕ) (slots : List Slot) → ((k : ℕ) (d : Slot) → k < length slots → f (get_or slots k d) ≢ n) → count_at f n slots ≡ 0
none_at f n [] other = refl
none_at f n (slot ∷ rest) other = elim (one_if_eq (f slot) n) [
  | inl same ↦ absurd (other 0 slot (omega arith) same.0)
  | inr differs ↦ omega (arith, count_at-cons f n slot rest, differs.1, none_at f n rest (λ k d within. other (suc k) d (omega arith)))
]

at_most_one : (f : Slot → ℕ) (n : ℕ) (slots : List Slot) → AllPairs (λ a b. f a ≢ f b) slots → count_at f n slots ≤ 1
at_most_one f n [] apart = omega arith
at_most_one f n (slot ∷ rest) apart =
    let tail : AllPairs (λ a b. f a ≢ f b) rest = λ i j d before within. apart (suc i) (suc j) d (omega arith) (omega arith) in
    elim (one_if_eq (f slot) n) [
      | inl same ↦
          let none : count_at f n rest ≡ 0 = none_at f n rest (λ k d within is. apart 0 (suc k) d (omega arith) (omega arith) (same.0 ∙ sym is)) in
          omega (arith, count_at-cons f n slot rest, same.1, none)
      | inr differs ↦ omega (arith, count_at-cons f n slot rest, differs.1, at_most_one f n rest tail)
    ]

one_at : (f : Slot → ℕ) (n : ℕ) (slots : List Slot) (k : ℕ) (d : Slot) → k < length slots → f (get_or slots k d) ≡ n → 1 ≤ count_at f n slots
one_at f n [] k d within is = absurd (omega arith)
one_at f n (slot ∷ rest) zero d within is = elim (one_if_eq (f slot) n) [
  | inl same ↦ omega (arith, count_at-cons f n slot rest, same.1)
  | inr differs ↦ absurd (differs.0 is)
]
one_at f n (slot ∷ rest) (suc k) d within is = omega (arith, count_at-cons f n slot rest, one_at f n rest k d (omega arith) is)

found_at : (f : Slot → ℕ) (n : ℕ) (slots : List Slot) → 1 ≤ count_at f n slots → (k : ℕ) × (k < length slots) × ((d : Slot) → f (get_or slots k d) ≡ n)
found_at f n [] some = absurd (omega arith)
found_at f n (slot ∷ rest) some = elim (one_if_eq (f slot) n) [
  | inl same ↦ (0, omega arith, λ d. same.0)
  | inr differs ↦
      let there = found_at f n rest (omega (arith, count_at-cons f n slot rest, differs.1)) in
      (suc there.0, omega (arith, there.1), there.2)
]

-- slots apart whose number is below n are at most n
below : (Slot → ℕ) → ℕ → List Slot → ℕ
below f n slots = sum_by (λ slot. one_if (ltb (f slot) n)) slots

below-more : (f : Slot → ℕ) (n : ℕ) (slots : List Slot) → below f (suc n) slots ≡ below f n slots + count_at f n slots
unfolding below
below-more f n [] = omega arith
below-more f n (slot ∷ rest) =
    let one : one_if (ltb (f slot) (suc n)) ≡ one_if (ltb (f slot) n) + one_if (eqb (f slot) n) = grind (arith, nat_tests) in
    omega (arith, one, count_at-cons f n slot rest, below-more f n rest, sum_by-cons (λ (s : Slot). one_if (ltb (f s) (suc n))) slot rest, sum_by-cons (λ (s : Slot). one_if (ltb (f s) n)) slot rest)

below-none : (f : Slot → ℕ) (slots : List Slot) → below f 0 slots ≡ 0
unfolding below
below-none f [] = refl
below-none f (slot ∷ rest) =
    let none : one_if (ltb (f slot) 0) ≡ 0 = grind (arith, nat_tests) in
    omega (arith, none, below-none f rest, sum_by-cons (λ (s : Slot). one_if (ltb (f s) 0)) slot rest)

below-le : (f : Slot → ℕ) (n : ℕ) (slots : List Slot) → AllPairs (λ a b. f a ≢ f b) slots → below f n slots ≤ n
below-le f zero slots apart = omega (arith, below-none f slots)
below-le f (suc n) slots apart = omega (arith, below-more f n slots, below-le f n slots apart, at_most_one f n slots apart)

below-all : (f : Slot → ℕ) (n : ℕ) (slots : List Slot) → ((k : ℕ) (d : Slot) → k < length slots → f (get_or slots k d) < n) → below f n slots ≡ length slots
unfolding below
below-all f n [] each = refl
below-all f n (slot ∷ rest) each =
    let first : f slot < n = each 0 slot (omega arith) in
    let one : one_if (ltb (f slot) n) ≡ 1 = grind (arith, nat_tests) in
    omega (arith, one, below-all f n rest (λ k d within. each (suc k) d (omega arith)), sum_by-cons (λ (s : Slot). one_if (ltb (f s) n)) slot rest)

few_slots : (f : Slot → ℕ) (n : ℕ) (slots : List Slot) → AllPairs (λ a b. f a ≢ f b) slots → ((k : ℕ) (d : Slot) → k < length slots → f (get_or slots k d) < n) → length slots ≤ n
few_slots f n slots apart each = omega (arith, below-le f n slots apart, below-all f n slots each)

-- ---- the chunks that stood before a round

ran-rises : (p : ℕ) (rounds : List (List Slot)) (r s : ℕ) → r ≤ s → slots_in_all p (take r rounds) ≤ slots_in_all p (take s rounds)
ran-rises p rounds r s order =
    omega (arith, sum_by-take-le (slots_of p) (take s rounds) r, ap (slots_in_all p) (take-take r s rounds order))

pub ran-whole : (p : ℕ) (rounds : List (List Slot)) → slots_in_all p (take (length rounds) rounds) ≡ slots_in_all p rounds
ran-whole p rounds = ap (slots_in_all p) (take_all (length rounds) rounds (le_refl (length rounds)))

-- ---- what stands in a set is a slot of the round

-- slot i of round r
abbrev pub slot_at : List (List Slot) → ℕ → ℕ → Slot
slot_at rounds r i = get_or (get_or rounds r []) i no_slot

pub record HasSlot (rounds : List (List Slot)) (r p j : ℕ) : Type 0 where
  pub place : ℕ
  pub round : r < length rounds
  pub within : place < length (get_or rounds r [])
  pub partition_is : (slot_at rounds r place).partition ≡ p
  pub chunk_is : (slot_at rounds r place).chunk ≡ j

set_at : (rounds : List (List Slot)) (r : ℕ) (d : List Pair) → r < length rounds → get_or (sets_of rounds) r d ≡ map slot_pair (get_or rounds r [])
set_at rounds r d within = get_or-map (map slot_pair) rounds r [] d within

pub slot_from_stands : (rounds : List (List Slot)) (r p j : ℕ) → StandsIn (sets_of rounds) r (p, j) → HasSlot rounds r p j
slot_from_stands rounds r p j stands =
    let round : r < length rounds = omega (arith, stands.0, length-map rounds (map slot_pair)) in
    let contains : Contains (map slot_pair (get_or rounds r [])) (p, j) = subst (λ (pairs : List Pair). Contains pairs (p, j)) (set_at rounds r [] round) stands.1 in
    let within : contains.0 < length (get_or rounds r []) = omega (arith, contains.1, length-map (get_or rounds r []) slot_pair) in
    let is : slot_pair (slot_at rounds r contains.0) ≡ (p, j) = sym (get_or-map slot_pair (get_or rounds r []) contains.0 no_slot (p, j) within) ∙ contains.2 in
    record { place = contains.0; round = round; within = within; partition_is = ap (λ (u : Pair). u.0) is; chunk_is = ap (λ (u : Pair). u.1) is }

same_pair : (s : Slot) (p j : ℕ) → s.partition ≡ p → s.chunk ≡ j → slot_pair s ≡ (p, j)
same_pair s p j a b = cc

pub stands_from_slot : (rounds : List (List Slot)) (r i : ℕ) → r < length rounds → i < length (get_or rounds r []) → StandsIn (sets_of rounds) r ((slot_at rounds r i).partition, (slot_at rounds r i).chunk)
stands_from_slot rounds r i round within =
    let u : Pair = slot_pair (slot_at rounds r i) in
    let contains : Contains (map slot_pair (get_or rounds r [])) u =
    (i, omega (arith, within, length-map (get_or rounds r []) slot_pair), get_or-map slot_pair (get_or rounds r []) i no_slot u within) in
    (omega (arith, round, length-map rounds (map slot_pair)), subst (λ (pairs : List Pair). Contains pairs u) (sym (set_at rounds r [] round)) contains)

stands_as : (rounds : List (List Slot)) (r i p j : ℕ) → r < length rounds → i < length (get_or rounds r []) → (slot_at rounds r i).partition ≡ p → (slot_at rounds r i).chunk ≡ j → StandsIn (sets_of rounds) r (p, j)
stands_as rounds r i p j round within a b =
    subst (λ (u : Pair). StandsIn (sets_of rounds) r u) (same_pair (slot_at rounds r i) p j a b) (stands_from_slot rounds r i round within)

-- ---- what good slots say of the first rounds

module _ (counts : List ℕ) (threads : ℕ) (rounds : List (List Slot)) (first : ℕ) (some : first ≤ length rounds) (good : AreGood counts threads rounds first) where
  good_at : (r i : ℕ) → r < first → i < length (get_or rounds r []) → IsGood counts threads (slots_in_all (slot_at rounds r i).partition (take r rounds)) (take i (get_or rounds r [])) (slot_at rounds r i)
  good_at r i round within = good r i no_slot round within

  apart_in : (r : ℕ) → r < first → (i j : ℕ) (d : Slot) → i < j → j < length (get_or rounds r []) → ((get_or (get_or rounds r []) i d).lane ≢ (get_or (get_or rounds r []) j d).lane) × ((get_or (get_or rounds r []) i d).partition ≢ (get_or (get_or rounds r []) j d).partition)
  apart_in r round i j d before within =
      let slot = good r j d round within in
      let here : i < length (take j (get_or rounds r [])) = omega (arith, length-take-le j (get_or rounds r []) (omega arith)) in
      subst (λ (s : Slot). (s.lane ≢ (get_or (get_or rounds r []) j d).lane) × (s.partition ≢ (get_or (get_or rounds r []) j d).partition)) (get_or-take j (get_or rounds r []) i d before) (slot.apart i d here)

  lanes_apart_in : (r : ℕ) → r < first → AllPairs (λ a b. a.lane ≢ b.lane) (get_or rounds r [])
  lanes_apart_in r round i j d before within = (apart_in r round i j d before within).0

  partitions_apart_in : (r : ℕ) → r < first → AllPairs (λ a b. a.partition ≢ b.partition) (get_or rounds r [])
  partitions_apart_in r round i j d before within = (apart_in r round i j d before within).1

  pub chunk_is_ran : (r p j : ℕ) → r < first → HasSlot rounds r p j → j ≡ slots_in_all p (take r rounds)
  chunk_is_ran r p j round has =
      sym has.chunk_is ∙ (good_at r has.place round has.within).next ∙ ap (λ q. slots_in_all q (take r rounds)) has.partition_is

  pub ran_later : (r s p j : ℕ) → r < s → HasSlot rounds r p j → slots_in_all p (take r rounds) + 1 ≤ slots_in_all p (take s rounds)
  ran_later r s p j later has =
      let one : 1 ≤ slots_of p (get_or rounds r []) = one_at (λ s. s.partition) p (get_or rounds r []) has.place no_slot has.within has.partition_is in
      omega (arith, slots_in_all-more p rounds r has.round, one, ran-rises p rounds (r + 1) s (omega arith))

  -- the round at which the count of the partition passes j
  passes_at : (p j k : ℕ) → k ≤ first → j < slots_in_all p (take k rounds) → (r : ℕ) × (r < k) × (slots_in_all p (take r rounds) ≡ j) × (1 ≤ slots_of p (get_or rounds r []))
  passes_at p j zero within below_it = absurd (omega arith)
  passes_at p j (suc k) within below_it = elim (cases_lt j (slots_in_all p (take k rounds))) [
    | inl earlier ↦
        let there = passes_at p j k (omega arith) earlier in
        (there.0, omega (arith, there.1), there.2, there.3)
    | inr here ↦
        let more : slots_in_all p (take (k + 1) rounds) ≡ slots_in_all p (take k rounds) + slots_of p (get_or rounds k []) = slots_in_all-more p rounds k (omega arith) in
        let next : slots_in_all p (take (suc k) rounds) ≡ slots_in_all p (take (k + 1) rounds) = ap (λ n. slots_in_all p (take n rounds)) (sym (add-one k)) in
        let one : slots_of p (get_or rounds k []) ≤ 1 = at_most_one (λ s. s.partition) p (get_or rounds k []) (partitions_apart_in k (omega arith)) in
        (k, omega arith, omega (arith, more, next, one, here, below_it), omega (arith, more, next, here, below_it))
  ]

  -- so the chunks that ran before round k stand there, and are chunks of the load
  pub stood : (p j k : ℕ) → k ≤ first → j < slots_in_all p (take k rounds) → (r : ℕ) × (r < k) × StandsIn (sets_of rounds) r (p, j) × (p < length counts) × (j < slice_index counts p)
  stood p j k within below_it =
      let at = passes_at p j k within below_it in
      let slot = found_at (λ s. s.partition) p (get_or rounds at.0 []) at.3 in
      let here = good_at at.0 slot.0 (omega (arith, at.1)) slot.1 in
      let partition : (slot_at rounds at.0 slot.0).partition ≡ p = slot.2 no_slot in
      let chunk : (slot_at rounds at.0 slot.0).chunk ≡ j = here.next ∙ ap (λ q. slots_in_all q (take at.0 rounds)) partition ∙ at.2 in
      let counted : slice_index counts (slot_at rounds at.0 slot.0).partition ≡ slice_index counts p = ap (slice_index counts) partition in (
        at.0,
        at.1,
        stands_as rounds at.0 slot.0 p j (omega (arith, at.1)) slot.1 partition chunk,
        omega (arith, here.partition, partition),
        omega (arith, here.chunk, chunk, counted),
      )

-- ---- from faultless to lawful

module _ (counts : List ℕ) (threads : ℕ) (rounds : List (List Slot)) (faultless : IsFaultless counts threads rounds) where
  all : length rounds ≤ length rounds
  all = le_refl (length rounds)

  ran_at : (r p j : ℕ) → StandsIn (sets_of rounds) r (p, j) → j ≡ slots_in_all p (take r rounds)
  ran_at r p j stands =
      let has = slot_from_stands rounds r p j stands in
      chunk_is_ran counts threads rounds (length rounds) all faultless.good r p j has.round has

  rises_behind : (r s p j : ℕ) → r < s → StandsIn (sets_of rounds) r (p, j) → slots_in_all p (take r rounds) + 1 ≤ slots_in_all p (take s rounds)
  rises_behind r s p j later stands =
      ran_later counts threads rounds (length rounds) all faultless.good r s p j later (slot_from_stands rounds r p j stands)

  somewhere : (p j : ℕ) → p < length counts → j < slice_index counts p → (r : ℕ) × StandsIn (sets_of rounds) r (p, j)
  somewhere p j known there =
      let at = stood counts threads rounds (length rounds) all faultless.good p j (length rounds) all (omega (arith, faultless.whole p known, ran-whole p rounds)) in
      (at.0, at.2)

  sets_lawful : IsLawful counts threads (sets_of rounds)
  sets_lawful = record {
    known = λ r p j stands.
        let has = slot_from_stands rounds r p j stands in
        let good = faultless.good r has.place no_slot has.round has.within in
        let counted : slice_index counts (slot_at rounds r has.place).partition ≡ slice_index counts p = ap (slice_index counts) has.partition_is in
        (omega (arith, good.partition, has.partition_is), omega (arith, good.chunk, has.chunk_is, counted));
    small = λ r d within.
        let round : r < length rounds = omega (arith, within, length-map rounds (map slot_pair)) in
        let long = ap length (set_at rounds r d round) in
        omega (arith, long, length-map (get_or rounds r []) slot_pair, few_slots (λ s. s.lane) threads (get_or rounds r []) (lanes_apart_in counts threads rounds (length rounds) all faultless.good r round) (λ k e here. (faultless.good r k e round here).lane));
    apart = λ r d within.
        let round : r < length rounds = omega (arith, within, length-map rounds (map slot_pair)) in
        subst HasOnePerPartition (sym (set_at rounds r d round)) (λ i j e before inside same.
        let long = length-map (get_or rounds r []) slot_pair in
        let first = get_or-map slot_pair (get_or rounds r []) i no_slot e (omega (arith, long)) in
        let second = get_or-map slot_pair (get_or rounds r []) j no_slot e (omega (arith, long)) in
        partitions_apart_in counts threads rounds (length rounds) all faultless.good r round i j no_slot before (omega (arith, long))
        (sym (ap (λ (u : Pair). u.0) first) ∙ same ∙ ap (λ (u : Pair). u.0) second));
    somewhere = somewhere;
    once = λ r s p j a b.
        let j_first = ran_at r p j a in
        let j_second = ran_at s p j b in
        elim (cases_lt r s) [
          | inl earlier ↦ absurd (omega (arith, rises_behind r s p j earlier a, j_first, j_second))
          | inr rest ↦ elim (cases_lt s r) [
            | inl later ↦ absurd (omega (arith, rises_behind s r p j later b, j_first, j_second))
            | inr same ↦ omega arith
          ]
        ];
    in_order = λ r s p j a b.
        let j_first = ran_at r p j a in
        let j_second = ran_at s p (j + 1) b in
        elim (cases_lt r s) [
          | inl earlier ↦ earlier
          | inr rest ↦ absurd (omega (arith, ran-rises p rounds s r rest, j_first, j_second))
        ];
  }

  pub lawful_from_faultless : StandsForLawful counts threads rounds
  lawful_from_faultless = record {
    lanes = All-from_get_or (λ (slots : List Slot). All (λ slot. slot.lane < threads) slots) rounds [] (λ r round k d within. (faultless.good r k d round within).lane);
    lanes_apart = All-from_get_or (λ (slots : List Slot). AllPairs (λ a b. a.lane ≢ b.lane) slots) rounds [] (lanes_apart_in counts threads rounds (length rounds) all faultless.good);
    lawful = sets_lawful;
  }

-- ---- from lawful to faultless

-- the later chunk of a partition stands no earlier
stands_no_earlier : (counts : List ℕ) (threads : ℕ) (sets : List (List Pair)) → IsLawful counts threads sets → (p j t : ℕ) → StandsIn sets t (p, j) → (k r : ℕ) → StandsIn sets r (p, j + k) → t ≤ r
stands_no_earlier counts threads sets lawful p j t first zero r later =
    let same : StandsIn sets r (p, j) = subst (λ (c : ℕ). StandsIn sets r (p, c)) (add-zero j) later in
    omega (arith, lawful.once t r p j first same)
stands_no_earlier counts threads sets lawful p j t first (suc k) r later =
    let known = lawful.known r p (j + suc k) later in
    let before = lawful.somewhere p (j + k) known.0 (omega (arith, known.1)) in
    let step : j + suc k ≡ (j + k) + 1 = omega arith in
    let later' : StandsIn sets r (p, (j + k) + 1) = subst (λ (c : ℕ). StandsIn sets r (p, c)) step later in
    let rises : before.0 < r = lawful.in_order before.0 r p (j + k) before.1 later' in
    let rest : t ≤ before.0 = stands_no_earlier counts threads sets lawful p j t first k before.0 before.1 in
    omega arith

chunk_order : (counts : List ℕ) (threads : ℕ) (sets : List (List Pair)) → IsLawful counts threads sets → (p c j r t : ℕ) → StandsIn sets r (p, c) → StandsIn sets t (p, j) → r < t → c < j
chunk_order counts threads sets lawful p c j r t first second before = elim (cases_lt c j) [
  | inl less ↦ less
  | inr rest ↦
      let is : c ≡ j + (c - j) = omega arith in
      let first' : StandsIn sets r (p, j + (c - j)) = subst (λ (k : ℕ). StandsIn sets r (p, k)) is first in
      absurd (omega (arith, stands_no_earlier counts threads sets lawful p j t second (c - j) r first'))
]

module _ (counts : List ℕ) (threads : ℕ) (rounds : List (List Slot)) (plan : StandsForLawful counts threads rounds) where
  apart_by_partition : (r : ℕ) → r < length rounds → AllPairs (λ a b. a.partition ≢ b.partition) (get_or rounds r [])
  apart_by_partition r round i j d before within same =
      let long = length-map (get_or rounds r []) slot_pair in
      let sets_long = length-map rounds (map slot_pair) in
      let one : HasOnePerPartition (map slot_pair (get_or rounds r [])) =
      subst HasOnePerPartition (set_at rounds r [] round) (plan.lawful.apart r [] (omega (arith, round, sets_long))) in
      let first = get_or-map slot_pair (get_or rounds r []) i d (0, 0) (omega arith) in
      let second = get_or-map slot_pair (get_or rounds r []) j d (0, 0) within in
      one i j (0, 0) before (omega (arith, long)) (ap (λ (u : Pair). u.0) first ∙ same ∙ sym (ap (λ (u : Pair). u.0) second))

  few_of_partition : (p r : ℕ) → r < length rounds → slots_of p (get_or rounds r []) ≤ 1
  few_of_partition p r round = at_most_one (λ s. s.partition) p (get_or rounds r []) (apart_by_partition r round)

  -- a slot of the partition in round r, where there is one
  slot_of_partition : (p r : ℕ) → r < length rounds → 1 ≤ slots_of p (get_or rounds r []) → (c : ℕ) × StandsIn (sets_of rounds) r (p, c)
  slot_of_partition p r round some =
      let slot = found_at (λ s. s.partition) p (get_or rounds r []) some in
      ((slot_at rounds r slot.0).chunk, stands_as rounds r slot.0 p ((slot_at rounds r slot.0).chunk) round slot.1 (slot.2 no_slot) refl)

  one_where_it_stands : (p r j : ℕ) → StandsIn (sets_of rounds) r (p, j) → (r < length rounds) × (1 ≤ slots_of p (get_or rounds r []))
  one_where_it_stands p r j stands =
      let has = slot_from_stands rounds r p j stands in
      (has.round, one_at (λ s. s.partition) p (get_or rounds r []) has.place no_slot has.within has.partition_is)

  ran_at_most : (p r : ℕ) → r ≤ length rounds → (t j : ℕ) → r ≤ t → StandsIn (sets_of rounds) t (p, j) → slots_in_all p (take r rounds) ≤ j
  ran_at_most p zero within t j order stands = omega arith
  ran_at_most p (suc r) within t j order stands =
      let more : slots_in_all p (take (r + 1) rounds) ≡ slots_in_all p (take r rounds) + slots_of p (get_or rounds r []) = slots_in_all-more p rounds r (omega arith) in
      let next : slots_in_all p (take (suc r) rounds) ≡ slots_in_all p (take (r + 1) rounds) = ap (λ n. slots_in_all p (take n rounds)) (sym (add-one r)) in
      elim (cases_lt 0 (slots_of p (get_or rounds r []))) [
        | inr none ↦ omega (arith, more, next, none, ran_at_most p r (omega arith) t j (omega arith) stands)
        | inl some ↦
            let slot = slot_of_partition p r (omega arith) some in
            let before = ran_at_most p r (omega arith) r slot.0 (omega arith) slot.1 in
            let less = chunk_order counts threads (sets_of rounds) plan.lawful p slot.0 j r t slot.1 stands (omega arith) in
            omega (arith, more, next, few_of_partition p r (omega arith), before, less)
      ]

  ran_at_least : (p j t : ℕ) → StandsIn (sets_of rounds) t (p, j) → j ≤ slots_in_all p (take t rounds)
  ran_at_least p zero t stands = omega arith
  ran_at_least p (suc j) t stands =
      let known = plan.lawful.known t p (suc j) stands in
      let before = plan.lawful.somewhere p j known.0 (omega (arith, known.1)) in
      let stands' : StandsIn (sets_of rounds) t (p, j + 1) = subst (λ (c : ℕ). StandsIn (sets_of rounds) t (p, c)) (sym (add-one j)) stands in
      let earlier : before.0 < t = plan.lawful.in_order before.0 t p j before.1 stands' in
      let one = one_where_it_stands p before.0 j before.1 in
      omega (arith, ran_at_least p j before.0 before.1, one.1, slots_in_all-more p rounds before.0 one.0, ran-rises p rounds (before.0 + 1) t (omega arith))

  ran_within : (p : ℕ) → p < length counts → (r : ℕ) → r ≤ length rounds → slots_in_all p (take r rounds) ≤ slice_index counts p
  ran_within p known zero within = omega arith
  ran_within p known (suc r) within =
      let more : slots_in_all p (take (r + 1) rounds) ≡ slots_in_all p (take r rounds) + slots_of p (get_or rounds r []) = slots_in_all-more p rounds r (omega arith) in
      let next : slots_in_all p (take (suc r) rounds) ≡ slots_in_all p (take (r + 1) rounds) = ap (λ n. slots_in_all p (take n rounds)) (sym (add-one r)) in
      elim (cases_lt 0 (slots_of p (get_or rounds r []))) [
        | inr none ↦ omega (arith, more, next, none, ran_within p known r (omega arith))
        | inl some ↦
            let slot = slot_of_partition p r (omega arith) some in
            let before = ran_at_most p r (omega arith) r slot.0 (omega arith) slot.1 in
            omega (arith, more, next, few_of_partition p r (omega arith), before, (plan.lawful.known r p slot.0 slot.1).1)
      ]

  all_stood : (p : ℕ) → p < length counts → (n : ℕ) → slice_index counts p ≡ n → n ≤ slots_in_all p rounds
  all_stood p known zero is = omega arith
  all_stood p known (suc j) is =
      let last = plan.lawful.somewhere p j known (omega arith) in
      let one = one_where_it_stands p last.0 j last.1 in
      omega (arith, ran_at_least p j last.0 last.1, one.1, slots_in_all-more p rounds last.0 one.0, ran-rises p rounds (last.0 + 1) (length rounds) (omega (arith, one.0)), ran-whole p rounds)

  pub faultless_from_lawful : IsFaultless counts threads rounds
  faultless_from_lawful = record {
    good = λ r i d round within.
        let slot : Slot = get_or (get_or rounds r []) i d in
        let is : slot ≡ slot_at rounds r i = get_or_default (get_or rounds r []) i d no_slot within in
        let stands : StandsIn (sets_of rounds) r (slot.partition, slot.chunk) =
        stands_as rounds r i slot.partition slot.chunk round within (sym (ap (λ (s : Slot). s.partition) is)) (sym (ap (λ (s : Slot). s.chunk) is)) in
        let known = plan.lawful.known r slot.partition slot.chunk stands in
        record {
          lane = plan.lanes r [] round i d within;
          partition = known.0;
          chunk = known.1;
          apart = λ k e here.
              let before : k < i = omega (arith, here, length-take-le i (get_or rounds r []) (omega arith)) in
              let same : get_or (take i (get_or rounds r [])) k e ≡ get_or (get_or rounds r []) k d =
              get_or-take i (get_or rounds r []) k e before ∙ get_or_default (get_or rounds r []) k e d (omega arith) in
              subst (λ (s : Slot). (s.lane ≢ slot.lane) × (s.partition ≢ slot.partition)) (sym same)
              (plan.lanes_apart r [] round k i d before within, apart_by_partition r round k i d before within);
          next = le_antisymm (ran_at_least slot.partition slot.chunk r stands) (ran_at_most slot.partition r (omega arith) r slot.chunk (omega arith) stands);
        };
    whole = λ p known.
        le_antisymm (rw (← ran-whole p rounds) (ran_within p known (length rounds) (omega arith))) (all_stood p known (slice_index counts p) refl);
  }

-- ---- the law

pub lawful_from_no_fault : (counts : List ℕ) (threads : ℕ) (rounds : List (List Slot)) → found_fault counts threads rounds ≡ None → StandsForLawful counts threads rounds
lawful_from_no_fault counts threads rounds none = lawful_from_faultless counts threads rounds (faultless_from_none counts threads rounds none)

pub no_fault_from_lawful : (counts : List ℕ) (threads : ℕ) (rounds : List (List Slot)) → StandsForLawful counts threads rounds → found_fault counts threads rounds ≡ None
no_fault_from_lawful counts threads rounds lawful = none_from_faultless counts threads rounds (faultless_from_lawful counts threads rounds lawful)
