use Rattle.std.proofs.Common.{ℕ, sym, subst, ◌∙◌}
use Rattle.jb_rounds.proofs.Busy.{BusyLanes}
use Rattle.jb_rounds.proofs.Only.{round_is_long, round_is_only}
use Rattle.jb_rounds.proofs.cursor.RoundCursor.only_slot.Goals as goal
use Rattle.jb_rounds.proofs.cursor.RoundCursor.only_slot.Goals.{After-busy_lanes}

lanes : (c : After-busy_lanes) → BusyLanes c.args.self.now c.args.round c.busy_lanes.result
lanes c = record { few = c.busy_lanes.ensures.few; busy = c.busy_lanes.ensures.busy; idle = c.busy_lanes.ensures.idle }

pub returns-then-busy_lanes-ne1-clause-others : goal.returns-then-busy_lanes-ne1-clause-others
returns-then-busy_lanes-ne1-clause-others c = λ one.
    c.if-busy_lanes-ne1.true (sym (round_is_long c.args.self.now c.args.round c.busy_lanes.result (lanes (goal.at.returns-then-busy_lanes-ne1-clause-others c).After-busy_lanes)) ∙ one)

pub returns-clause-only : goal.returns-clause-only
returns-clause-only c =
    let alone : BusyLanes c.args.self.now c.args.round 1 = subst (λ (n : ℕ). BusyLanes c.args.self.now c.args.round n) c.if-busy_lanes-ne1.false (lanes (goal.at.returns-clause-only c).After-busy_lanes) in
    round_is_only c.args.self.now c.args.round (c.in_ok-partition.partition, c.in_ok-partition.chunk) alone (sym c.in_ok-partition.was ∙ c.slot_near.ensures.value)
