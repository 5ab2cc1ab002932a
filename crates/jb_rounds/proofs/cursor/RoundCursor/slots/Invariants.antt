use Rattle.std.proofs.Common.{◌≡◌, filter_map}
use Rattle.std.specs.List.{range_with_len}
use Rattle.jb_cert.specs.WrapAround.{lane_slot}
use Rattle.jb_rounds.proofs.cursor.RoundCursor.slots.Given as goal

abbrev pub invariant-loop-lane : goal.invariant-loop-lane
invariant-loop-lane l =
    l.slots.items ≡ filter_map (lane_slot l.self.counts l.self.threads l.round) (range_with_len 0 l.lane)
