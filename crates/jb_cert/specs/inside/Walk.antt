-- The first fault as a walk over a plan finds it, for the checker's own loops. Faults has the definition.
use Rattle.std.specs.Prelude.{ℕ, List, [], ◌∷◌, ◌++◌, Option, Some, None}
use Rattle.jb_cert.specs.declared.plans.Slot.{Slot}
use Rattle.jb_cert.specs.declared.plans.PlanFault.{PlanFault}
use Rattle.jb_cert.specs.Faults.{slots_in_all, slot_fault, missing_fault}

-- what is wrong with a slot, if so many slots of each partition ran in earlier rounds and these are before it in its own
abbrev pub fault_here : List ℕ → ℕ → (ℕ → ℕ) → List Slot → Slot → Option PlanFault
fault_here counts threads ran here slot =
    slot_fault counts threads (record { slot = slot; ran = ran slot.partition; before = here })

-- the first of two
abbrev pub first_of_two : Option PlanFault → Option PlanFault → Option PlanFault
first_of_two (Some fault) later = Some fault
first_of_two None later = later

-- among the rest of a round, with the slots here before them
abbrev pub fault_in_round : List ℕ → ℕ → (ℕ → ℕ) → List Slot → List Slot → Option PlanFault
fault_in_round counts threads ran here [] = None
fault_in_round counts threads ran here (slot ∷ rest) =
    first_of_two (fault_here counts threads ran here slot) (fault_in_round counts threads ran (here ++ slot ∷ []) rest)

-- among the rest of the rounds, with these before them, and at the end
abbrev pub fault_after : List ℕ → ℕ → List (List Slot) → List (List Slot) → Option PlanFault
fault_after counts threads before [] = missing_fault counts (λ p. slots_in_all p before)
fault_after counts threads before (round ∷ rest) =
    first_of_two (fault_in_round counts threads (λ p. slots_in_all p before) [] round) (fault_after counts threads (before ++ round ∷ []) rest)

-- in the whole plan
abbrev pub found_fault : List ℕ → ℕ → List (List Slot) → Option PlanFault
found_fault counts threads rounds = fault_after counts threads [] rounds
