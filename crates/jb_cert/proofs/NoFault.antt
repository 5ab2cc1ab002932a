-- No fault is found exactly where each slot is good by those before it, and no chunk is left.
use Rattle.std.proofs.Common.{◌≡◌, ◌≢◌, ℕ, zero, suc, ◌<◌, Bool, true, false, cond, eqb, ltb, ◌&&◌, List, [], ◌∷◌, ◌++◌, length, get_or, take, slice_index, Option, Some, None, sym, refl, subst, arith, append_assoc, append-nil, ltb-true, lt-ltb, eq-eqb, ne_eqb, eqb-true}
use Rattle.std.specs.List.{list_any}
use Rattle.std.proofs.lemmas.Bool.{or_parts, or_from, eqb-false}
use Rattle.std.proofs.lemmas.Bool.Decides.{nat_tests}
use Rattle.jb_cert.specs.declared.plans.Slot.{Slot}
use Rattle.jb_cert.specs.declared.plans.PlanFault.{PlanFault}
use Rattle.jb_cert.specs.declared.plans.PlanFault.TheVariants.{Missing}
use Rattle.jb_cert.specs.Faults.{slots_in_all, has_lane, is_chunk_of, collides, missing_fault}
use Rattle.jb_cert.specs.inside.Walk.{fault_here, first_of_two, fault_in_round, fault_after, found_fault}
use Rattle.jb_cert.proofs.Judged.{at_range, by_tests, known_parts, nothing_missing}

-- what no fault at a slot says: so many chunks of its partition stood before, and these slots in its round
pub record IsGood (counts : List ℕ) (threads ran : ℕ) (here : List Slot) (slot : Slot) : Type 0 where
  pub lane : slot.lane < threads
  pub partition : slot.partition < length counts
  pub chunk : slot.chunk < slice_index counts slot.partition
  pub apart : (k : ℕ) (d : Slot) → k < length here → ((get_or here k d).lane ≢ slot.lane) × ((get_or here k d).partition ≢ slot.partition)
  pub next : slot.chunk ≡ ran

apart_from_none : (slot : Slot) (here : List Slot) → list_any (collides slot) here ≡ false → (k : ℕ) (d : Slot) → k < length here → ((get_or here k d).lane ≢ slot.lane) × ((get_or here k d).partition ≢ slot.partition)
apart_from_none slot [] none k d within = absurd (omega arith)
apart_from_none slot (other ∷ rest) none zero d within =
    let parts = or_parts (collides slot other) (list_any (collides slot) rest) none in
    let both = or_parts (eqb other.lane slot.lane) (eqb other.partition slot.partition) parts.0 in
    (eqb-false other.lane slot.lane both.0, eqb-false other.partition slot.partition both.1)
apart_from_none slot (other ∷ rest) none (suc k) d within =
    let parts = or_parts (collides slot other) (list_any (collides slot) rest) none in
    apart_from_none slot rest parts.1 k d (omega arith)

none_from_apart : (slot : Slot) (here : List Slot) → ((k : ℕ) (d : Slot) → k < length here → ((get_or here k d).lane ≢ slot.lane) × ((get_or here k d).partition ≢ slot.partition)) → list_any (collides slot) here ≡ false
none_from_apart slot [] apart = refl
none_from_apart slot (other ∷ rest) apart =
    let first = apart 0 other (omega arith) in
    or_from (collides slot other) (list_any (collides slot) rest)
    (or_from (eqb other.lane slot.lane) (eqb other.partition slot.partition) (ne_eqb other.lane slot.lane first.0) (ne_eqb other.partition slot.partition first.1))
    (none_from_apart slot rest (λ k d within. apart (suc k) d (omega arith)))

tests_none : (lane known twice next : Bool) → by_tests lane known twice next ≡ None → (lane ≡ true) × (known ≡ true) × (twice ≡ false) × (next ≡ true)
tests_none false known twice next is = cc
tests_none true false twice next is = cc
tests_none true true true next is = cc
tests_none true true false false is = cc
tests_none true true false true is = (refl, refl, refl, refl)

none_from_tests : (lane known twice next : Bool) → lane ≡ true → known ≡ true → twice ≡ false → next ≡ true → by_tests lane known twice next ≡ None
none_from_tests false known twice next a b c d = cc
none_from_tests true false twice next a b c d = cc
none_from_tests true true true next a b c d = cc
none_from_tests true true false false a b c d = cc
none_from_tests true true false true a b c d = refl

pub known_both : (a n c k : ℕ) → a < n → c < k → (ltb a n && ltb c k) ≡ true
known_both a n c k p q = grind (arith, nat_tests)

good_from_none : (counts : List ℕ) (threads : ℕ) (ran : ℕ → ℕ) (here : List Slot) (slot : Slot) → fault_here counts threads ran here slot ≡ None → IsGood counts threads (ran slot.partition) here slot
good_from_none counts threads ran here slot is =
    let passed = tests_none (has_lane threads slot) (is_chunk_of counts slot) (list_any (collides slot) here) (eqb slot.chunk (ran slot.partition)) is in
    let known = known_parts counts slot passed.1 in
    record {
      lane = ltb-true slot.lane threads passed.0;
      partition = known.0;
      chunk = known.1;
      apart = apart_from_none slot here passed.2;
      next = eqb-true slot.chunk (ran slot.partition) passed.3;
    }

none_from_good : (counts : List ℕ) (threads : ℕ) (ran : ℕ → ℕ) (here : List Slot) (slot : Slot) → IsGood counts threads (ran slot.partition) here slot → fault_here counts threads ran here slot ≡ None
none_from_good counts threads ran here slot good =
    none_from_tests (has_lane threads slot) (is_chunk_of counts slot) (list_any (collides slot) here) (eqb slot.chunk (ran slot.partition))
    (lt-ltb slot.lane threads good.lane)
    (known_both slot.partition (length counts) slot.chunk (slice_index counts slot.partition) good.partition good.chunk)
    (none_from_apart slot here good.apart)
    (eq-eqb slot.chunk (ran slot.partition) good.next)

first_of_two-none : (a b : Option PlanFault) → first_of_two a b ≡ None → (a ≡ None) × (b ≡ None)
first_of_two-none None b is = (refl, is)
first_of_two-none (Some f) b is = cc

none-first_of_two : (a b : Option PlanFault) → a ≡ None → b ≡ None → first_of_two a b ≡ None
none-first_of_two None b x y = y
none-first_of_two (Some f) b x y = cc

-- ---- a round

pub good_in_round : (counts : List ℕ) (threads : ℕ) (ran : ℕ → ℕ) (here rest : List Slot) → fault_in_round counts threads ran here rest ≡ None → (i : ℕ) (d : Slot) → i < length rest → IsGood counts threads (ran (get_or rest i d).partition) (here ++ take i rest) (get_or rest i d)
good_in_round counts threads ran here [] is i d within = absurd (omega arith)
good_in_round counts threads ran here (slot ∷ rest) is zero d within =
    let parts = first_of_two-none (fault_here counts threads ran here slot) (fault_in_round counts threads ran (here ++ slot ∷ []) rest) is in
    subst (λ (slots : List Slot). IsGood counts threads (ran slot.partition) slots slot) (sym (append-nil here)) (good_from_none counts threads ran here slot parts.0)
good_in_round counts threads ran here (slot ∷ rest) is (suc i) d within =
    let parts = first_of_two-none (fault_here counts threads ran here slot) (fault_in_round counts threads ran (here ++ slot ∷ []) rest) is in
    subst (λ (slots : List Slot). IsGood counts threads (ran (get_or rest i d).partition) slots (get_or rest i d)) (append_assoc here (slot ∷ []) (take i rest))
    (good_in_round counts threads ran (here ++ slot ∷ []) rest parts.1 i d (omega arith))

none_in_round : (counts : List ℕ) (threads : ℕ) (ran : ℕ → ℕ) (here rest : List Slot) → ((i : ℕ) (d : Slot) → i < length rest → IsGood counts threads (ran (get_or rest i d).partition) (here ++ take i rest) (get_or rest i d)) → fault_in_round counts threads ran here rest ≡ None
none_in_round counts threads ran here [] good = refl
none_in_round counts threads ran here (slot ∷ rest) good =
    none-first_of_two (fault_here counts threads ran here slot) (fault_in_round counts threads ran (here ++ slot ∷ []) rest)
    (none_from_good counts threads ran here slot (subst (λ (slots : List Slot). IsGood counts threads (ran slot.partition) slots slot) (append-nil here) (good 0 slot (omega arith))))
    (none_in_round counts threads ran (here ++ slot ∷ []) rest (λ i d within.
    subst (λ (slots : List Slot). IsGood counts threads (ran (get_or rest i d).partition) slots (get_or rest i d)) (sym (append_assoc here (slot ∷ []) (take i rest)))
    (good (suc i) d (omega arith))))

-- ---- the plan

-- each slot of the first rounds is good
abbrev pub AreGood : List ℕ → ℕ → List (List Slot) → ℕ → Type 0
AreGood counts threads rounds first =
    (r i : ℕ) (d : Slot) → r < first → i < length (get_or rounds r []) → IsGood counts threads (slots_in_all (get_or (get_or rounds r []) i d).partition (take r rounds)) (take i (get_or rounds r [])) (get_or (get_or rounds r []) i d)

pub record IsFaultless (counts : List ℕ) (threads : ℕ) (rounds : List (List Slot)) : Type 0 where
  pub good : AreGood counts threads rounds (length rounds)
  pub whole : (p : ℕ) → p < length counts → slots_in_all p rounds ≡ slice_index counts p

rounds_pass : (counts : List ℕ) (threads : ℕ) (before rest : List (List Slot)) → fault_after counts threads before rest ≡ None → (r : ℕ) → r < length rest → fault_in_round counts threads (λ p. slots_in_all p (before ++ take r rest)) [] (get_or rest r []) ≡ None
rounds_pass counts threads before [] is r within = absurd (omega arith)
rounds_pass counts threads before (round ∷ rest) is zero within =
    let parts = first_of_two-none (fault_in_round counts threads (λ p. slots_in_all p before) [] round) (fault_after counts threads (before ++ round ∷ []) rest) is in
    subst (λ (done : List (List Slot)). fault_in_round counts threads (λ p. slots_in_all p done) [] round ≡ None) (sym (append-nil before)) parts.0
rounds_pass counts threads before (round ∷ rest) is (suc r) within =
    let parts = first_of_two-none (fault_in_round counts threads (λ p. slots_in_all p before) [] round) (fault_after counts threads (before ++ round ∷ []) rest) is in
    subst (λ (done : List (List Slot)). fault_in_round counts threads (λ p. slots_in_all p done) [] (get_or rest r []) ≡ None) (append_assoc before (round ∷ []) (take r rest))
    (rounds_pass counts threads (before ++ round ∷ []) rest parts.1 r (omega arith))

end_passes : (counts : List ℕ) (threads : ℕ) (before rest : List (List Slot)) → fault_after counts threads before rest ≡ None → missing_fault counts (λ p. slots_in_all p (before ++ rest)) ≡ None
end_passes counts threads before [] is = subst (λ (done : List (List Slot)). missing_fault counts (λ p. slots_in_all p done) ≡ None) (sym (append-nil before)) is
end_passes counts threads before (round ∷ rest) is =
    let parts = first_of_two-none (fault_in_round counts threads (λ p. slots_in_all p before) [] round) (fault_after counts threads (before ++ round ∷ []) rest) is in
    subst (λ (done : List (List Slot)). missing_fault counts (λ p. slots_in_all p done) ≡ None) (append_assoc before (round ∷ []) rest)
    (end_passes counts threads (before ++ round ∷ []) rest parts.1)

none_after : (counts : List ℕ) (threads : ℕ) (before rest : List (List Slot)) → ((r : ℕ) → r < length rest → fault_in_round counts threads (λ p. slots_in_all p (before ++ take r rest)) [] (get_or rest r []) ≡ None) → missing_fault counts (λ p. slots_in_all p (before ++ rest)) ≡ None → fault_after counts threads before rest ≡ None
none_after counts threads before [] pass end = subst (λ (done : List (List Slot)). missing_fault counts (λ p. slots_in_all p done) ≡ None) (append-nil before) end
none_after counts threads before (round ∷ rest) pass end =
    none-first_of_two (fault_in_round counts threads (λ p. slots_in_all p before) [] round) (fault_after counts threads (before ++ round ∷ []) rest)
    (subst (λ (done : List (List Slot)). fault_in_round counts threads (λ p. slots_in_all p done) [] round ≡ None) (append-nil before) (pass 0 (omega arith)))
    (none_after counts threads (before ++ round ∷ []) rest
    (λ r within. subst (λ (done : List (List Slot)). fault_in_round counts threads (λ p. slots_in_all p done) [] (get_or rest r []) ≡ None) (sym (append_assoc before (round ∷ []) (take r rest))) (pass (suc r) (omega arith)))
    (subst (λ (done : List (List Slot)). missing_fault counts (λ p. slots_in_all p done) ≡ None) (sym (append_assoc before (round ∷ []) rest)) end))

missing_none : (b : Bool) → cond b None (Some Missing) ≡ None → b ≡ true
missing_none true is = refl
missing_none false is = cc

pub faultless_from_none : (counts : List ℕ) (threads : ℕ) (rounds : List (List Slot)) → found_fault counts threads rounds ≡ None → IsFaultless counts threads rounds
faultless_from_none counts threads rounds is = record {
  good = λ r i d round slot. good_in_round counts threads (λ p. slots_in_all p (take r rounds)) [] (get_or rounds r []) (rounds_pass counts threads [] rounds is r round) i d slot;
  whole = λ p within. eqb-true (slots_in_all p rounds) (slice_index counts p)
      (at_range (λ q. eqb (slots_in_all q rounds) (slice_index counts q)) (length counts) (missing_none _ (end_passes counts threads [] rounds is)) p within);
}

pub none_from_faultless : (counts : List ℕ) (threads : ℕ) (rounds : List (List Slot)) → IsFaultless counts threads rounds → found_fault counts threads rounds ≡ None
none_from_faultless counts threads rounds faultless =
    none_after counts threads [] rounds
    (λ r round. none_in_round counts threads (λ p. slots_in_all p (take r rounds)) [] (get_or rounds r []) (λ i d slot. faultless.good r i d round slot))
    (nothing_missing counts (λ p. slots_in_all p rounds) faultless.whole)
