-- How many slots a round has, and the one of a round that has no other.
use Rattle.std.proofs.Common.{◌≡◌, ℕ, zero, suc, ◌+◌, ◌<◌, List, [], ◌∷◌, ◌++◌, length, Option, Some, None, IsSome, option_map, filter_map, refl, ap, sym, ◌∙◌, length-append, arith}
use Rattle.std.specs.List.{range_with_len, cons_option}
use Rattle.jb_cert.specs.declared.plans.Slot.{Slot}
use Rattle.jb_cert.specs.Load.{Load}
use Rattle.jb_cert.specs.Lawful.{Pair}
use Rattle.jb_cert.specs.WrapAround.{in_lane, lane_slot, slot_of, slots_of_round}
use Rattle.jb_rounds.proofs.Busy.{BusyLanes}
use Rattle.jb_rounds.proofs.Made.{lane_step, whole_round}

length-more : (slots : List Slot) (l : ℕ) (o : Option Pair) → IsSome o → length (slots ++ cons_option (option_map (in_lane l) o) []) ≡ length slots + 1
length-more slots l (Some u) some = length-append slots (in_lane l u ∷ [])
length-more slots l None some = absurd cc

-- lanes that all have a slot have as many
long : (counts : List ℕ) (threads r n : ℕ) → ((l : ℕ) → l < n → IsSome (slot_of counts threads r l)) → length (filter_map (lane_slot counts threads r) (range_with_len 0 n)) ≡ n
long counts threads r zero busy = refl
long counts threads r (suc n) busy =
    let before = long counts threads r n (λ l below. busy l (omega arith)) in
    let step = lane_step counts threads r n (slot_of counts threads r n) refl in
    let more = length-more (filter_map (lane_slot counts threads r) (range_with_len 0 n)) n (slot_of counts threads r n) (busy n (omega arith)) in
    let next : suc n ≡ n + 1 = omega arith in
    ap (λ (k : ℕ). length (filter_map (lane_slot counts threads r) (range_with_len 0 k))) next ∙ ap length step ∙ more ∙ (let all : length (filter_map (lane_slot counts threads r) (range_with_len 0 n)) + 1 ≡ suc n = omega (arith, before) in all)

-- so a round has as many slots as it has busy lanes
pub round_is_long : (load : Load) (r n : ℕ) → BusyLanes load r n → length (slots_of_round load.counts load.threads r) ≡ n
round_is_long load r n lanes =
    ap length (sym (whole_round load.counts load.threads r n lanes.few (lanes.idle n (omega arith)))) ∙ long load.counts load.threads r n lanes.busy

pub round_is_only : (load : Load) (r : ℕ) (u : Pair) → BusyLanes load r 1 → Some u ≡ slot_of load.counts load.threads r 0 → slots_of_round load.counts load.threads r ≡ in_lane 0 u ∷ []
round_is_only load r u lanes is =
    sym (whole_round load.counts load.threads r 1 lanes.few (lanes.idle 1 (omega arith)))
    ∙ lane_step load.counts load.threads r 0 (Some u) is
