use Rattle.std.proofs.Common.{◌≡◌, ◌≤◌, ℕ, ap, sym, ◌∙◌, arith, filter_map}
use Rattle.std.specs.List.{range_with_len}
use Rattle.jb_cert.specs.WrapAround.{lane_slot}
use Rattle.jb_rounds.proofs.Made.{lane_step, with_slot, grow, whole_round}
use Rattle.jb_rounds.proofs.cursor.RoundCursor.slots.Goals as goal
use Rattle.jb_rounds.proofs.cursor.RoundCursor.slots.Goals.{else-loop-lane-test, then-loop-lane-test+in_default}

pub loop-lane-preserved : goal.loop-lane-preserved
loop-lane-preserved c =
    let load = c.args.self.now in
    let step = lane_step load.counts load.threads c.args.round c.loop-lane.lane c.slot.result c.slot.ensures.value in
    let grown = with_slot c.loop-lane.slots.items c.loop-lane.lane c.slot.result (c.in-Some.partition, c.in-Some.chunk) c.in-Some.is in
    c.in_ok-push.ensures.items ∙ grown ∙ ap (grow c.slot.result c.loop-lane.lane) c.loop-lane.invariant ∙ sym step

pub returns : goal.returns
returns c =
    let load = c.args.self.now in
    let within : c.loop-lane.lane ≤ load.threads = omega (arith, c.loop-lane.auto.lane-end, c.threads-threads.ensures.value) in
    elim c.loop-lane-test.branch [
      | else-loop-lane-test w ↦
          let all : c.loop-lane.lane ≡ load.threads = omega (arith, within, c.threads-threads.ensures.value) in
          c.loop-lane.invariant ∙ ap (λ (n : ℕ). filter_map (lane_slot load.counts load.threads c.args.round) (range_with_len 0 n)) all
      | then-loop-lane-test+in_default w ↦
          c.loop-lane.invariant ∙ whole_round load.counts load.threads c.args.round c.loop-lane.lane within (sym w.slot.ensures.value ∙ w.in_default.is)
    ]
