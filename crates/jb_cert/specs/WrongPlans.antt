-- What is wrong with a plan of slots, said of the whole plan. By the laws of the checker's faults, its first fault implies it.
use Rattle.std.specs.Prelude.{◌≡◌, ◌⊎◌, ℕ, ◌<◌, ◌≤◌, List, [], length, slice_index, slice_index_or, Contains, Some}
use Rattle.jb_cert.specs.declared.plans.Slot.{Slot}
use Rattle.jb_cert.specs.declared.plans.PlanFault.{PlanFault}
use Rattle.jb_cert.specs.Lawful.{Pair, StandsIn}
use Rattle.jb_cert.specs.Plans.{slot_pair, sets_of}
use Rattle.jb_cert.specs.Faults.{first_plan_fault}

-- the slot is in a round of the plan
abbrev pub IsSlotOf : List (List Slot) → Slot → Type 0
IsSlotOf rounds slot = (r : ℕ) × (r < length rounds) × Contains (slice_index_or rounds r []) slot

-- there is such a partition, and it has such a chunk
abbrev pub HasChunk : List ℕ → Pair → Type 0
HasChunk counts pair = (pair.0 < length counts) × (pair.1 < slice_index counts pair.0)

-- a slot's lane is not below the number of threads
abbrev pub HasLaneOutOfRange : ℕ → List (List Slot) → Type 0
HasLaneOutOfRange threads rounds = (slot : Slot) × IsSlotOf rounds slot × (threads ≤ slot.lane)

-- a slot is of a chunk that doesn't exist
abbrev pub HasStranger : List ℕ → List (List Slot) → Type 0
HasStranger counts rounds = (slot : Slot) × IsSlotOf rounds slot × (HasChunk counts (slot_pair slot) → ⊥)

-- two places of the round have the same number, of a lane or of a partition
abbrev pub Repeats : (Slot → ℕ) → List Slot → Type 0
Repeats number round =
    (i : ℕ) × (j : ℕ) × (i < j) × (j < length round)
    × ((d : Slot) → number (slice_index_or round i d) ≡ number (slice_index_or round j d))

-- a lane or a partition comes twice in a round
abbrev pub HasTwiceInRound : List (List Slot) → Type 0
HasTwiceInRound rounds =
    (r : ℕ) × (r < length rounds)
    × (Repeats (λ slot. slot.lane) (slice_index_or rounds r []) ⊎ Repeats (λ slot. slot.partition) (slice_index_or rounds r []))

-- the chunk is in a round before round r
abbrev pub StandsBefore : List (List Slot) → ℕ → Pair → Type 0
StandsBefore rounds r pair = (s : ℕ) × (s < r) × StandsIn (sets_of rounds) s pair

-- a chunk of some round is in an earlier round too, or some earlier chunk of its partition is in no earlier round
abbrev pub HasOutOfOrder : List (List Slot) → Type 0
HasOutOfOrder rounds =
    (r : ℕ) × (p : ℕ) × (j : ℕ) × StandsIn (sets_of rounds) r (p, j)
    × (StandsBefore rounds r (p, j) ⊎ ((k : ℕ) × (k < j) × (StandsBefore rounds r (p, k) → ⊥)))

-- a chunk of the load is in no round
abbrev pub HasMissing : List ℕ → List (List Slot) → Type 0
HasMissing counts rounds =
    (p : ℕ) × (j : ℕ) × HasChunk counts (p, j) × ((r : ℕ) → StandsIn (sets_of rounds) r (p, j) → ⊥)

-- every plan with this first fault is wrong in that way
abbrev pub FirstFaultSays : PlanFault → (List ℕ → ℕ → List (List Slot) → Type 0) → Type 0
FirstFaultSays fault IsWrong =
    (counts : List ℕ) (threads : ℕ) (rounds : List (List Slot)) → first_plan_fault counts threads rounds ≡ Some fault
    → IsWrong counts threads rounds
