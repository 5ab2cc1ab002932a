use Rattle.std.proofs.Common.{◌≡◌, ◌≤◌, ◌+◌, ◌-◌, ◌*◌, ◌++◌, length, drop, map}
use Rattle.std.specs.List.{concat, range_with_len}
use Rattle.jb_cert.specs.WrapAround.{slots_of_round}
use Rattle.jb_texts.specs.PlanText.{lane_text}
use Rattle.jb_texts.proofs.plan.lanes.write_lanes.Given as goal

-- the last lanes are written, before what stood at the end
abbrev pub invariant-loop-behind : goal.invariant-loop-behind
invariant-loop-behind l = record {
  begin : (l.begin ≤ l.end) × (l.end ≤ l.begin + 32 * l.behind);
  line : length l.line ≡ length l.initial.line;
  written : drop l.begin l.line
      ≡ concat (map (lane_text (slots_of_round l.cursor.counts l.cursor.threads l.round)) (range_with_len (l.lanes - l.behind) l.behind)) ++ drop l.end l.initial.line;
  near : length l.near ≡ length l.initial.near;
}
