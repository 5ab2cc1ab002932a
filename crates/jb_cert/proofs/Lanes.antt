-- The slot of a lane among those of a round.
use Rattle.std.proofs.Common.{◌≡◌, ◌≢◌, ℕ, zero, suc, ◌+◌, ◌<◌, ◌≤◌, Bool, cond, eqb, List, find, filter_map, Option, Some, None, option_map, sym, ◌∙◌, refl, ap, subst, inl, inr, arith, eq-eqb, ne_eqb}
use Rattle.std.specs.List.{range_with_len, cons_option}
use Rattle.std.proofs.lemmas.Bool.{cases_eq}
use Rattle.jb_cert.specs.declared.plans.Slot.{Slot}
use Rattle.jb_cert.specs.Lawful.{Pair}
use Rattle.jb_cert.specs.WrapAround.{slot_of, in_lane, lane_slot, slots_of_round}

abbrev has_number : ℕ → Slot → Bool
has_number l slot = eqb slot.lane l

elsewhere : (l a : ℕ) (o : Option Pair) (rest : List Slot) → a ≢ l → find (has_number l) (cons_option (option_map (in_lane a) o) rest) ≡ find (has_number l) rest
elsewhere l a (Some u) rest other = ap (λ (b : Bool). cond b (Some (in_lane a u)) (find (has_number l) rest)) (ne_eqb a l other)
elsewhere l a None rest other = refl

here : (l : ℕ) (o : Option Pair) (rest : List Slot) → find (has_number l) rest ≡ None → find (has_number l) (cons_option (option_map (in_lane l) o) rest) ≡ option_map (in_lane l) o
here l (Some u) rest none = ap (λ (b : Bool). cond b (Some (in_lane l u)) (find (has_number l) rest)) (eq-eqb l l refl)
here l None rest none = none

-- the slots of n lanes from lane a on
abbrev slots_from : (ℕ → Option Pair) → ℕ → ℕ → List Slot
slots_from given a n = filter_map (λ k. option_map (in_lane k) (given k)) (range_with_len a n)

none_before : (given : ℕ → Option Pair) (l n a : ℕ) → l < a → find (has_number l) (slots_from given a n) ≡ None
none_before given l zero a before = refl
none_before given l (suc n) a before =
    elsewhere l a (given a) (slots_from given (a + 1) n) (λ same. omega arith) ∙ none_before given l n (a + 1) (omega arith)

found_from : (given : ℕ → Option Pair) (l n a : ℕ) → a ≤ l → l < a + n → find (has_number l) (slots_from given a n) ≡ option_map (in_lane l) (given l)
found_from given l zero a from until = absurd (omega arith)
found_from given l (suc n) a from until = elim (cases_eq a l) [
  | inl same ↦ subst (λ (k : ℕ). find (has_number l) (slots_from given k (suc n)) ≡ option_map (in_lane l) (given l)) (sym same)
      (here l (given l) (slots_from given (l + 1) n) (none_before given l n (l + 1) (omega arith)))
  | inr other ↦ elsewhere l a (given a) (slots_from given (a + 1) n) other ∙ found_from given l n (a + 1) (omega arith) (omega arith)
]

pub lane_found : (counts : List ℕ) (threads r l : ℕ) → l < threads → find (λ slot. eqb slot.lane l) (slots_of_round counts threads r) ≡ lane_slot counts threads r l
lane_found counts threads r l within = found_from (slot_of counts threads r) l threads 0 (omega arith) (omega arith)
