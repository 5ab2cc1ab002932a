-- McNaughton's wrap-around of 1959. The chunks of all partitions are laid end to end in a row, partition after partition.
-- The row is cut into lanes of as many places as the plan has rounds. Its sets are those of these slots.
use Rattle.std.specs.Prelude.{ℕ, suc, ◌+◌, ◌-◌, ◌*◌, ◌/◌, List, [], ◌∷◌, sum, take, map, slice_index, nat_lt, nat_le, ◌&&◌, Option, Some, None, option_map, if◌then◌else◌, filter_map}
use Rattle.std.specs.List.{range_with_len}
use Rattle.jb_cert.specs.declared.plans.Slot.{Slot}
use Rattle.jb_cert.specs.Load.{mcnaughton}
use Rattle.jb_cert.specs.Lawful.{Pair}

-- how many chunks lie before those of partition p: the place of its first one
abbrev pub first_place : List ℕ → ℕ → ℕ
first_place counts p = sum (take p counts)

-- the partition whose chunks lie round place x: first_place counts p ≤ x < first_place counts p + count of p
abbrev pub partition_at_place : List ℕ → ℕ → ℕ
partition_at_place [] x = 0
partition_at_place (n ∷ ns) x = if nat_lt x n then 0 else suc (partition_at_place ns (x - n))

-- The chunk at place x of a partition of n chunks that begins at place start, in lanes of so many rounds. If the
-- partition continues past the end of its lane, its part after the cut is in the next lane's first rounds. So that part
-- has the first chunks: chunks are numbered by rounds, not along the lanes.
abbrev pub chunk_at_place : ℕ → ℕ → ℕ → ℕ → ℕ
chunk_at_place rounds start n x =
    let cut = (start / rounds + 1) * rounds in
    if nat_lt cut (start + n) then
    (if nat_le cut x then x - cut else ((start + n) - cut) + (x - start))
    else x - start

-- the chunk at place x of the row
abbrev pub pair_at_place : List ℕ → ℕ → ℕ → Pair
pair_at_place counts rounds x =
    let p = partition_at_place counts x in
    (p, chunk_at_place rounds (first_place counts p) (slice_index counts p) x)

-- what lane l has at round r: place l * rounds + r of the row
abbrev pub slot_of : List ℕ → ℕ → ℕ → ℕ → Option Pair
slot_of counts threads r l =
    let rounds = mcnaughton counts threads in
    let x = l * rounds + r in
    if nat_lt r rounds && nat_lt l threads && nat_lt x (sum counts) then Some (pair_at_place counts rounds x)
    else None

abbrev pub in_lane : ℕ → Pair → Slot
in_lane l pair = record { lane = l; partition = pair.0; chunk = pair.1 }

abbrev pub lane_slot : List ℕ → ℕ → ℕ → ℕ → Option Slot
lane_slot counts threads r l = option_map (in_lane l) (slot_of counts threads r l)

-- the slots of round r, by rising lane
abbrev pub slots_of_round : List ℕ → ℕ → ℕ → List Slot
slots_of_round counts threads r = filter_map (lane_slot counts threads r) (range_with_len 0 threads)

-- all rounds
abbrev pub wrapped_rounds : List ℕ → ℕ → List (List Slot)
wrapped_rounds counts threads = map (slots_of_round counts threads) (range_with_len 0 (mcnaughton counts threads))
