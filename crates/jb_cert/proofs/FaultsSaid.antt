-- What a plan's first fault says of the plan.
use Rattle.std.proofs.Common.{◌≡◌, ◌≢◌, ◌⊎◌, ℕ, zero, suc, ◌<◌, ◌≤◌, Bool, true, false, cond, eqb, List, [], ◌∷◌, ◌++◌, length, get_or, take, slice_index, Option, Some, None, sym, ◌∙◌, refl, ap, subst, inl, inr, arith, le_refl, length-take-le, append_assoc, append-nil, ltb-false, eqb-true}
use Rattle.std.specs.List.{list_any}
use Rattle.std.proofs.lemmas.Bool.{cases_lt, cases_eq, or_cases, eqb-false}
use Rattle.std.proofs.lemmas.List.{get_or-take, get_or_default}
use Rattle.jb_cert.specs.declared.plans.Slot.{Slot}
use Rattle.jb_cert.specs.declared.plans.PlanFault.{PlanFault}
use Rattle.jb_cert.specs.declared.plans.PlanFault.TheVariants.{LaneRange, TwiceInRound, OutOfOrder, Missing, Stranger}
use Rattle.jb_cert.specs.Faults.{slots_in_all, has_lane, is_chunk_of, collides, missing_fault}
use Rattle.jb_cert.specs.WrongPlans.{IsSlotOf, HasLaneOutOfRange, HasStranger, Repeats, HasTwiceInRound, HasOutOfOrder, HasMissing, FirstFaultSays}
use Rattle.jb_cert.specs.inside.Walk.{fault_here, first_of_two, fault_in_round, fault_after, found_fault}
use Rattle.jb_cert.proofs.Judged.{no_slot, by_tests, nothing_missing}
use Rattle.jb_cert.proofs.NoFault.{AreGood, good_in_round, known_both}
use Rattle.jb_cert.proofs.Faultless.{slot_at, slot_from_stands, stands_from_slot, chunk_is_ran, ran_later, ran-whole, stood}
use Rattle.jb_cert.proofs.FirstFault.{first_plan_fault-is}

-- ---- where the first fault is

first_cases : (a b : Option PlanFault) (f : PlanFault) → first_of_two a b ≡ Some f → (a ≡ Some f) ⊎ ((a ≡ None) × (b ≡ Some f))
first_cases (Some g) b f is = inl is
first_cases None b f is = inr (refl, is)

faulty_in_round : (counts : List ℕ) (threads : ℕ) (ran : ℕ → ℕ) (here rest : List Slot) (f : PlanFault) → fault_in_round counts threads ran here rest ≡ Some f → (i : ℕ) × (i < length rest) × (fault_here counts threads ran (here ++ take i rest) (get_or rest i no_slot) ≡ Some f)
faulty_in_round counts threads ran here [] f is = cc
faulty_in_round counts threads ran here (slot ∷ rest) f is = elim (first_cases (fault_here counts threads ran here slot) (fault_in_round counts threads ran (here ++ slot ∷ []) rest) f is) [
  | inl first ↦ (0, omega arith, subst (λ (slots : List Slot). fault_here counts threads ran slots slot ≡ Some f) (sym (append-nil here)) first)
  | inr later ↦
      let there = faulty_in_round counts threads ran (here ++ slot ∷ []) rest f later.1 in
      (suc there.0, omega (arith, there.1), subst (λ (slots : List Slot). fault_here counts threads ran slots (get_or rest there.0 no_slot) ≡ Some f) (append_assoc here (slot ∷ []) (take there.0 rest)) there.2)
]

-- what the walk finds in round r of the rest, behind these rounds
abbrev found_at : List ℕ → ℕ → List (List Slot) → List (List Slot) → ℕ → Option PlanFault
found_at counts threads before rest r = fault_in_round counts threads (λ p. slots_in_all p (before ++ take r rest)) [] (get_or rest r [])

-- the first fault is in a round, with none before it, or at the end
pub record IsInRound (counts : List ℕ) (threads : ℕ) (before rest : List (List Slot)) (f : PlanFault) : Type 0 where
  pub r : ℕ
  pub round : r < length rest
  pub is : found_at counts threads before rest r ≡ Some f
  pub first : (s : ℕ) → s < r → found_at counts threads before rest s ≡ None

pub record IsAtEnd (counts : List ℕ) (threads : ℕ) (before rest : List (List Slot)) (f : PlanFault) : Type 0 where
  pub is : missing_fault counts (λ p. slots_in_all p (before ++ rest)) ≡ Some f
  pub first : (s : ℕ) → s < length rest → found_at counts threads before rest s ≡ None

found_behind : (counts : List ℕ) (threads : ℕ) (before : List (List Slot)) (round : List Slot) (rest : List (List Slot)) (r : ℕ) (o : Option PlanFault) → found_at counts threads (before ++ round ∷ []) rest r ≡ o → found_at counts threads before (round ∷ rest) (suc r) ≡ o
found_behind counts threads before round rest r o is =
    subst (λ (done : List (List Slot)). fault_in_round counts threads (λ p. slots_in_all p done) [] (get_or rest r []) ≡ o) (append_assoc before (round ∷ []) (take r rest)) is

found_first : (counts : List ℕ) (threads : ℕ) (before : List (List Slot)) (round : List Slot) (rest : List (List Slot)) (o : Option PlanFault) → fault_in_round counts threads (λ p. slots_in_all p before) [] round ≡ o → found_at counts threads before (round ∷ rest) 0 ≡ o
found_first counts threads before round rest o is =
    subst (λ (done : List (List Slot)). fault_in_round counts threads (λ p. slots_in_all p done) [] round ≡ o) (sym (append-nil before)) is

none_before : (counts : List ℕ) (threads : ℕ) (before : List (List Slot)) (round : List Slot) (rest : List (List Slot)) (n : ℕ) → fault_in_round counts threads (λ p. slots_in_all p before) [] round ≡ None → ((s : ℕ) → s < n → found_at counts threads (before ++ round ∷ []) rest s ≡ None) → (s : ℕ) → s < suc n → found_at counts threads before (round ∷ rest) s ≡ None
none_before counts threads before round rest n here later zero within = found_first counts threads before round rest None here
none_before counts threads before round rest n here later (suc s) within = found_behind counts threads before round rest s None (later s (omega arith))

find_fault : (counts : List ℕ) (threads : ℕ) (before rest : List (List Slot)) (f : PlanFault) → fault_after counts threads before rest ≡ Some f → IsInRound counts threads before rest f ⊎ IsAtEnd counts threads before rest f
find_fault counts threads before [] f is = inr (record {
  is = subst (λ (rounds : List (List Slot)). missing_fault counts (λ p. slots_in_all p rounds) ≡ Some f) (sym (append-nil before)) is;
  first = λ s within. absurd (omega (arith, within));
})
find_fault counts threads before (round ∷ rest) f is =
    elim (first_cases (fault_in_round counts threads (λ p. slots_in_all p before) [] round) (fault_after counts threads (before ++ round ∷ []) rest) f is) [
      | inl here ↦ inl (record {
        r = 0;
        round = omega arith;
        is = found_first counts threads before round rest (Some f) here;
        first = λ s within. absurd (omega (arith, within));
      })
      | inr later ↦ elim (find_fault counts threads (before ++ round ∷ []) rest f later.1) [
        | inl there ↦ inl (record {
          r = suc there.r;
          round = omega (arith, there.round);
          is = found_behind counts threads before round rest there.r (Some f) there.is;
          first = none_before counts threads before round rest there.r later.0 there.first;
        })
        | inr end ↦ inr (record {
          is = subst (λ (rounds : List (List Slot)). missing_fault counts (λ p. slots_in_all p rounds) ≡ Some f) (append_assoc before (round ∷ []) rest) end.is;
          first = none_before counts threads before round rest (length rest) later.0 end.first;
        })
      ]
    ]

good_before : (counts : List ℕ) (threads : ℕ) (rounds : List (List Slot)) (n : ℕ) → ((s : ℕ) → s < n → found_at counts threads [] rounds s ≡ None) → AreGood counts threads rounds n
good_before counts threads rounds n first r i d within inside =
    good_in_round counts threads (λ p. slots_in_all p (take r rounds)) [] (get_or rounds r []) (first r within) i d inside

-- a slot at which the first fault is
pub record FaultySlot (counts : List ℕ) (threads : ℕ) (rounds : List (List Slot)) (f : PlanFault) : Type 0 where
  pub r : ℕ
  pub i : ℕ
  pub round : r < length rounds
  pub within : i < length (get_or rounds r [])
  pub good : AreGood counts threads rounds r
  pub is : fault_here counts threads (λ p. slots_in_all p (take r rounds)) (take i (get_or rounds r [])) (slot_at rounds r i) ≡ Some f

only_missing : (all : Bool) (f : PlanFault) → cond all None (Some Missing) ≡ Some f → f ≡ Missing
only_missing true f is = cc
only_missing false f is = cc

faulty_slot : (counts : List ℕ) (threads : ℕ) (rounds : List (List Slot)) (f : PlanFault) → (f ≡ Missing → ⊥) → found_fault counts threads rounds ≡ Some f → FaultySlot counts threads rounds f
faulty_slot counts threads rounds f other is = elim (find_fault counts threads [] rounds f is) [
  | inl found ↦
      let here = faulty_in_round counts threads (λ p. slots_in_all p (take found.r rounds)) [] (get_or rounds found.r []) f found.is in
      record {
        r = found.r;
        i = here.0;
        round = found.round;
        within = here.1;
        good = good_before counts threads rounds found.r found.first;
        is = here.2;
      }
  | inr end ↦ absurd (other (only_missing _ f end.is))
]

-- ---- what the tests of a slot say

lane_test : (lane known twice next : Bool) → by_tests lane known twice next ≡ Some LaneRange → lane ≡ false
lane_test false known twice next is = refl
lane_test true false twice next is = cc
lane_test true true true next is = cc
lane_test true true false false is = cc
lane_test true true false true is = cc

known_test : (lane known twice next : Bool) → by_tests lane known twice next ≡ Some Stranger → known ≡ false
known_test false known twice next is = cc
known_test true false twice next is = refl
known_test true true true next is = cc
known_test true true false false is = cc
known_test true true false true is = cc

twice_test : (lane known twice next : Bool) → by_tests lane known twice next ≡ Some TwiceInRound → twice ≡ true
twice_test false known twice next is = cc
twice_test true false twice next is = cc
twice_test true true true next is = refl
twice_test true true false false is = cc
twice_test true true false true is = cc

next_test : (lane known twice next : Bool) → by_tests lane known twice next ≡ Some OutOfOrder → next ≡ false
next_test false known twice next is = cc
next_test true false twice next is = cc
next_test true true true next is = cc
next_test true true false false is = refl
next_test true true false true is = cc

no_slot_is_missing : (lane known twice next : Bool) → by_tests lane known twice next ≡ Some Missing → ⊥
no_slot_is_missing false known twice next is = cc
no_slot_is_missing true false twice next is = cc
no_slot_is_missing true true true next is = cc
no_slot_is_missing true true false false is = cc
no_slot_is_missing true true false true is = cc

collided : (slot : Slot) (here : List Slot) → list_any (collides slot) here ≡ true → (k : ℕ) × (k < length here) × (collides slot (get_or here k no_slot) ≡ true)
collided slot [] is = cc
collided slot (other ∷ rest) is = elim (or_cases (collides slot other) (list_any (collides slot) rest) is) [
  | inl first ↦ (0, omega arith, first)
  | inr later ↦
      let there = collided slot rest later in
      (suc there.0, omega (arith, there.1), there.2)
]

-- ---- the faults

module _ (counts : List ℕ) (threads : ℕ) (rounds : List (List Slot)) (f : PlanFault) (at : FaultySlot counts threads rounds f) where
  abbrev slot : Slot
  slot = slot_at rounds at.r at.i

  abbrev round : List Slot
  round = get_or rounds at.r []

  is_slot : IsSlotOf rounds slot
  is_slot = (at.r, at.round, (at.i, at.within, get_or_default round at.i slot no_slot at.within))

  pub says_lane_range : f ≡ LaneRange → HasLaneOutOfRange threads rounds
  says_lane_range is =
      let test = lane_test (has_lane threads slot) (is_chunk_of counts slot) (list_any (collides slot) (take at.i round)) (eqb slot.chunk (slots_in_all slot.partition (take at.r rounds))) (at.is ∙ ap Some is) in
      (slot, is_slot, ltb-false slot.lane threads test)

  pub says_stranger : f ≡ Stranger → HasStranger counts rounds
  says_stranger is =
      let test = known_test (has_lane threads slot) (is_chunk_of counts slot) (list_any (collides slot) (take at.i round)) (eqb slot.chunk (slots_in_all slot.partition (take at.r rounds))) (at.is ∙ ap Some is) in (
        slot,
        is_slot,
        λ has.
            let known = known_both slot.partition (length counts) slot.chunk (slice_index counts slot.partition) has.0 has.1 in
            cc,
      )

  shared : (k : ℕ) → k < at.i → (number : Slot → ℕ) → eqb (number (get_or (take at.i round) k no_slot)) (number slot) ≡ true → Repeats number round
  shared k before number is =
      let same = eqb-true (number (get_or (take at.i round) k no_slot)) (number slot) is in
      let taken = get_or-take at.i round k no_slot before in (
        k,
        at.i,
        before,
        at.within,
        λ d.
            ap number (get_or_default round k d no_slot (omega (arith, before, at.within)) ∙ sym taken) ∙ same ∙ ap number (get_or_default round at.i no_slot d at.within),
      )

  pub says_twice : f ≡ TwiceInRound → HasTwiceInRound rounds
  says_twice is =
      let test = twice_test (has_lane threads slot) (is_chunk_of counts slot) (list_any (collides slot) (take at.i round)) (eqb slot.chunk (slots_in_all slot.partition (take at.r rounds))) (at.is ∙ ap Some is) in
      let other = collided slot (take at.i round) test in
      let before : other.0 < at.i = omega (arith, other.1, length-take-le at.i round (omega (arith, at.within))) in
      let there : Slot = get_or (take at.i round) other.0 no_slot in (
        at.r,
        at.round,
        elim (or_cases (eqb there.lane slot.lane) (eqb there.partition slot.partition) other.2) [
          | inl lane ↦ inl (shared other.0 before (λ s. s.lane) lane)
          | inr partition ↦ inr (shared other.0 before (λ s. s.partition) partition)
        ],
      )

  pub says_out_of_order : f ≡ OutOfOrder → HasOutOfOrder rounds
  says_out_of_order is =
      let ran : ℕ = slots_in_all slot.partition (take at.r rounds) in
      let test = next_test (has_lane threads slot) (is_chunk_of counts slot) (list_any (collides slot) (take at.i round)) (eqb slot.chunk ran) (at.is ∙ ap Some is) in
      let inside : at.r ≤ length rounds = omega (arith, at.round) in
      let stands = stands_from_slot rounds at.r at.i at.round at.within in (
        at.r,
        slot.partition,
        slot.chunk,
        stands,
        elim (cases_lt slot.chunk ran) [
          | inl before ↦
              let there = stood counts threads rounds at.r inside at.good slot.partition slot.chunk at.r (le_refl at.r) before in
              inl (there.0, there.1, there.2)
          | inr past ↦
              let differs : slot.chunk ≢ ran = λ same. eqb-false slot.chunk ran test same in
              inr (
                ran,
                omega (arith, past, differs),
                λ there.
                    let has = slot_from_stands rounds there.0 slot.partition ran there.2 in
                    let is_ran = chunk_is_ran counts threads rounds at.r inside at.good there.0 slot.partition ran there.1 has in
                    omega (arith, is_ran, ran_later counts threads rounds at.r inside at.good there.0 at.r slot.partition ran there.1 has),
              )
        ],
      )

-- ---- the end

differs_somewhere : (f g : ℕ → ℕ) (n : ℕ) → ((p : ℕ) → p < n → f p ≡ g p) ⊎ ((p : ℕ) × (p < n) × (f p ≢ g p))
differs_somewhere f g zero = inl (λ p within. absurd (omega (arith, within)))
differs_somewhere f g (suc n) = elim (differs_somewhere f g n) [
  | inr there ↦ inr (there.0, omega (arith, there.1), there.2)
  | inl same ↦ elim (cases_eq (f n) (g n)) [
    | inr other ↦ inr (n, omega arith, other)
    | inl here ↦ inl (λ p within. elim (cases_lt p n) [
      | inl below ↦ same p below
      | inr last ↦
          let is : p ≡ n = omega (arith, within, last) in
          ap f is ∙ here ∙ sym (ap g is)
    ])
  ]
]

says_missing : (counts : List ℕ) (threads : ℕ) (rounds : List (List Slot)) → AreGood counts threads rounds (length rounds) → missing_fault counts (λ p. slots_in_all p rounds) ≡ Some Missing → HasMissing counts rounds
says_missing counts threads rounds good is =
    let all : length rounds ≤ length rounds = le_refl (length rounds) in
    elim (differs_somewhere (λ p. slots_in_all p rounds) (slice_index counts) (length counts)) [
      | inl same ↦
          let none = nothing_missing counts (λ p. slots_in_all p rounds) same in
          cc
      | inr there ↦
          let p : ℕ = there.0 in
          let ran : ℕ = slots_in_all p rounds in
          let differs : ran ≢ slice_index counts p = there.2 in
          let whole : slots_in_all p (take (length rounds) rounds) ≡ ran = ran-whole p rounds in
          let few : ran < slice_index counts p = elim (cases_lt (slice_index counts p) ran) [
            | inl more ↦ absurd (omega (arith, (stood counts threads rounds (length rounds) all good p (slice_index counts p) (length rounds) all (omega (arith, more, whole))).4))
            | inr rest ↦ omega (arith, rest, differs)
          ] in (
            p,
            ran,
            (there.1, few),
            λ r stands.
                let has = slot_from_stands rounds r p ran stands in
                let is_ran = chunk_is_ran counts threads rounds (length rounds) all good r p ran has.round has in
                omega (arith, is_ran, whole, ran_later counts threads rounds (length rounds) all good r (length rounds) p ran has.round has),
          )
    ]

-- ---- the laws

pub lane_range_says : FirstFaultSays LaneRange (λ counts threads rounds. HasLaneOutOfRange threads rounds)
lane_range_says counts threads rounds is =
    says_lane_range counts threads rounds LaneRange (faulty_slot counts threads rounds LaneRange (λ same. cc) (sym (first_plan_fault-is counts threads rounds) ∙ is)) refl

pub stranger_says : FirstFaultSays Stranger (λ counts threads rounds. HasStranger counts rounds)
stranger_says counts threads rounds is =
    says_stranger counts threads rounds Stranger (faulty_slot counts threads rounds Stranger (λ same. cc) (sym (first_plan_fault-is counts threads rounds) ∙ is)) refl

pub twice_says : FirstFaultSays TwiceInRound (λ counts threads rounds. HasTwiceInRound rounds)
twice_says counts threads rounds is =
    says_twice counts threads rounds TwiceInRound (faulty_slot counts threads rounds TwiceInRound (λ same. cc) (sym (first_plan_fault-is counts threads rounds) ∙ is)) refl

pub out_of_order_says : FirstFaultSays OutOfOrder (λ counts threads rounds. HasOutOfOrder rounds)
out_of_order_says counts threads rounds is =
    says_out_of_order counts threads rounds OutOfOrder (faulty_slot counts threads rounds OutOfOrder (λ same. cc) (sym (first_plan_fault-is counts threads rounds) ∙ is)) refl

pub missing_says : FirstFaultSays Missing (λ counts threads rounds. HasMissing counts rounds)
missing_says counts threads rounds is =
    elim (find_fault counts threads [] rounds Missing (sym (first_plan_fault-is counts threads rounds) ∙ is)) [
      | inl found ↦
          let here = faulty_in_round counts threads (λ p. slots_in_all p (take found.r rounds)) [] (get_or rounds found.r []) Missing found.is in
          absurd (no_slot_is_missing _ _ _ _ here.2)
      | inr end ↦ says_missing counts threads rounds (good_before counts threads rounds (length rounds) end.first) end.is
    ]
