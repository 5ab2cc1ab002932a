-- The faults of a plan of slots, in the order in which they are looked for (own choice).
use Rattle.std.specs.Prelude.{ℕ, Bool, not, ◌&&◌, ◌||◌, nat_lt, ◌==◌, List, [], ◌∷◌, ◌++◌, length, slice_get, slice_index, count_by, sum_by, filter_map, Option, Some, None, if◌then◌else◌}
use Rattle.std.specs.List.{list_any, list_all, range_with_len, cons_option}
use Rattle.jb_cert.specs.declared.plans.Slot.{Slot}
use Rattle.jb_cert.specs.declared.plans.PlanFault.{PlanFault}
use Rattle.jb_cert.specs.declared.plans.PlanFault.TheVariants.{LaneRange, TwiceInRound, OutOfOrder, Missing, Stranger}

-- how many slots of a round, or of a list of rounds, are of partition p
abbrev pub slots_of : ℕ → List Slot → ℕ
slots_of p slots = count_by (λ slot. slot.partition == p) slots

abbrev pub slots_in_all : ℕ → List (List Slot) → ℕ
slots_in_all p rounds = sum_by (slots_of p) rounds

-- A slot in its place of a plan.
pub record PlacedSlot : Type 0 where
  pub slot : Slot
  -- how many slots of its partition are in the rounds before its own
  pub ran : ℕ
  -- the slots before it in its own round
  pub before : List Slot

-- there is such a lane
abbrev pub has_lane : ℕ → Slot → Bool
has_lane threads slot = nat_lt slot.lane threads

-- there is such a partition, and it has such a chunk
abbrev pub is_chunk_of : List ℕ → Slot → Bool
is_chunk_of counts slot = nat_lt slot.partition (length counts) && nat_lt slot.chunk (slice_index counts slot.partition)

-- two slots of a round share a lane or a partition
abbrev pub collides : Slot → Slot → Bool
collides slot other = other.lane == slot.lane || other.partition == slot.partition

-- What is wrong with a slot in its place: no such lane, no such chunk, a lane or a partition for the second time in the
-- round, or another chunk than its partition's next one.
abbrev pub slot_fault : List ℕ → ℕ → PlacedSlot → Option PlanFault
slot_fault counts threads placed =
    if not (has_lane threads placed.slot) then Some LaneRange
    else (if not (is_chunk_of counts placed.slot) then Some Stranger
    else (if list_any (collides placed.slot) placed.before then Some TwiceInRound
    else (if placed.slot.chunk == placed.ran then None else Some OutOfOrder)))

-- the slots of the rest of a round in their places, after these slots of it; the rounds before it have so many slots of
-- each partition
abbrev pub placed_in_round : (ℕ → ℕ) → List Slot → List Slot → List PlacedSlot
placed_in_round ran before [] = []
placed_in_round ran before (slot ∷ rest) =
    record { slot = slot; ran = ran slot.partition; before = before } ∷ placed_in_round ran (before ++ slot ∷ []) rest

-- the slots of the rest of a plan in their places, after these rounds of it
abbrev pub placed_in_plan : List (List Slot) → List (List Slot) → List PlacedSlot
placed_in_plan before [] = []
placed_in_plan before (round ∷ rest) =
    placed_in_round (λ p. slots_in_all p before) [] round ++ placed_in_plan (before ++ round ∷ []) rest

-- what is wrong with the whole, if each slot is good: a partition has other than so many slots as it has chunks
abbrev pub missing_fault : List ℕ → (ℕ → ℕ) → Option PlanFault
missing_fault counts ran =
    if list_all (λ p. ran p == slice_index counts p) (range_with_len 0 (length counts)) then None else Some Missing

-- the faults of all slots, in their order, and then that of the whole
abbrev pub plan_faults : List ℕ → ℕ → List (List Slot) → List PlanFault
plan_faults counts threads rounds =
    filter_map (slot_fault counts threads) (placed_in_plan [] rounds)
    ++ cons_option (missing_fault counts (λ p. slots_in_all p rounds)) []

-- the first fault of a plan, if it has one
abbrev pub first_plan_fault : List ℕ → ℕ → List (List Slot) → Option PlanFault
first_plan_fault counts threads rounds = slice_get (plan_faults counts threads rounds) 0
