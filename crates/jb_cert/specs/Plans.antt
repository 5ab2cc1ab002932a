-- What a plan of slots means: lanes are only names for the places of a round.
use Rattle.std.specs.Prelude.{◌≢◌, ℕ, ◌<◌, List, length, map, All, AllPairs}
use Rattle.jb_cert.specs.declared.plans.Slot.{Slot}
use Rattle.jb_cert.specs.declared.plans.Plan.{Plan}
use Rattle.jb_cert.specs.Lawful.{Pair, IsLawful, NoneIsShorter}

-- the rounds of a plan, each the list of its slots
abbrev pub plan_rounds : Plan → List (List Slot)
plan_rounds plan = map (λ round. round.items) plan.rounds.items

-- the slot without its lane
abbrev pub slot_pair : Slot → Pair
slot_pair slot = (slot.partition, slot.chunk)

-- the sets of pairs, without the lanes
abbrev pub sets_of : List (List Slot) → List (List Pair)
sets_of rounds = map (map slot_pair) rounds

-- its lanes are below the number of threads, none comes twice in a round, and its sets are a valid plan
pub record StandsForLawful (counts : List ℕ) (threads : ℕ) (rounds : List (List Slot)) : Type 0 where
  pub lanes : All (All (λ slot. slot.lane < threads)) rounds
  pub lanes_apart : All (AllPairs (λ a b. a.lane ≢ b.lane)) rounds
  pub lawful : IsLawful counts threads (sets_of rounds)

-- a valid plan, and no valid one is shorter
pub record StandsForLeast (counts : List ℕ) (threads : ℕ) (rounds : List (List Slot)) : Type 0 where
  pub lawful : StandsForLawful counts threads rounds
  pub least : NoneIsShorter counts threads (length rounds)
