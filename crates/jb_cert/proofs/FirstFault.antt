-- What the walk finds is the first of all faults.
use Rattle.std.proofs.Common.{◌≡◌, ℕ, List, [], ◌∷◌, ◌++◌, slice_get, filter_map, Option, Some, None, sym, ◌∙◌, refl, ap, ap₂, append_assoc, append-nil}
use Rattle.std.specs.List.{cons_option}
use Rattle.std.proofs.lemmas.List.Elements.{filter_map-append}
use Rattle.jb_cert.specs.declared.plans.Slot.{Slot}
use Rattle.jb_cert.specs.declared.plans.PlanFault.{PlanFault}
use Rattle.jb_cert.specs.Faults.{slots_in_all, slot_fault, placed_in_round, placed_in_plan, missing_fault, first_plan_fault}
use Rattle.jb_cert.specs.inside.Walk.{fault_here, first_of_two, fault_in_round, fault_after, found_fault}

first_of : List PlanFault → Option PlanFault
first_of faults = slice_get faults 0

first_of-append : (xs ys : List PlanFault) → first_of (xs ++ ys) ≡ first_of_two (first_of xs) (first_of ys)
unfolding first_of
first_of-append [] ys = refl
first_of-append (x ∷ xs) ys = refl

first_of-cons_option : (o : Option PlanFault) (ys : List PlanFault) → first_of (cons_option o ys) ≡ first_of_two o (first_of ys)
unfolding first_of
first_of-cons_option (Some x) ys = refl
first_of-cons_option None ys = refl

first_of_two-assoc : (a b c : Option PlanFault) → first_of_two (first_of_two a b) c ≡ first_of_two a (first_of_two b c)
first_of_two-assoc (Some x) b c = refl
first_of_two-assoc None b c = refl

first_of-one : (o : Option PlanFault) → first_of (cons_option o []) ≡ o
unfolding first_of
first_of-one (Some x) = refl
first_of-one None = refl

none_first : first_of [] ≡ None
unfolding first_of
none_first = refl

-- the rest of a round
first_in_round : (counts : List ℕ) (threads : ℕ) (ran : ℕ → ℕ) (here rest : List Slot) → fault_in_round counts threads ran here rest ≡ first_of (filter_map (slot_fault counts threads) (placed_in_round ran here rest))
first_in_round counts threads ran here [] = sym none_first
first_in_round counts threads ran here (slot ∷ rest) =
    ap (first_of_two (fault_here counts threads ran here slot)) (first_in_round counts threads ran (here ++ slot ∷ []) rest)
    ∙ sym (first_of-cons_option (fault_here counts threads ran here slot) (filter_map (slot_fault counts threads) (placed_in_round ran (here ++ slot ∷ []) rest)))

-- the rest of the rounds
first_in_rounds : (counts : List ℕ) (threads : ℕ) (before rest : List (List Slot)) → fault_after counts threads before rest ≡ first_of_two (first_of (filter_map (slot_fault counts threads) (placed_in_plan before rest))) (missing_fault counts (λ p. slots_in_all p (before ++ rest)))
first_in_rounds counts threads before [] =
    ap (λ (rounds : List (List Slot)). missing_fault counts (λ p. slots_in_all p rounds)) (sym (append-nil before))
    ∙ sym (ap (λ (o : Option PlanFault). first_of_two o (missing_fault counts (λ p. slots_in_all p (before ++ [])))) none_first)
first_in_rounds counts threads before (round ∷ rest) =
    let ran : ℕ → ℕ = λ p. slots_in_all p before in
    let end : Option PlanFault = missing_fault counts (λ p. slots_in_all p (before ++ round ∷ rest)) in
    let here : List PlanFault = filter_map (slot_fault counts threads) (placed_in_round ran [] round) in
    let later : List PlanFault = filter_map (slot_fault counts threads) (placed_in_plan (before ++ round ∷ []) rest) in
    ap₂ first_of_two (first_in_round counts threads ran [] round)
    (first_in_rounds counts threads (before ++ round ∷ []) rest
    ∙ ap (λ (rounds : List (List Slot)). first_of_two (first_of later) (missing_fault counts (λ p. slots_in_all p rounds))) (append_assoc before (round ∷ []) rest))
    ∙ sym (first_of_two-assoc (first_of here) (first_of later) end)
    ∙ sym (ap (λ (o : Option PlanFault). first_of_two o end)
    (ap first_of (filter_map-append (slot_fault counts threads) (placed_in_round ran [] round) (placed_in_plan (before ++ round ∷ []) rest)) ∙ first_of-append here later))

pub first_plan_fault-is : (counts : List ℕ) (threads : ℕ) (rounds : List (List Slot)) → first_plan_fault counts threads rounds ≡ found_fault counts threads rounds
unfolding first_of
first_plan_fault-is counts threads rounds =
    let end : Option PlanFault = missing_fault counts (λ p. slots_in_all p rounds) in
    let slots : List PlanFault = filter_map (slot_fault counts threads) (placed_in_plan [] rounds) in
    first_of-append slots (cons_option end [])
    ∙ ap (first_of_two (first_of slots)) (first_of-one end)
    ∙ sym (first_in_rounds counts threads [] rounds)
