use Rattle.std.proofs.Common.{◌-◌, ◌++◌, map, drop, ◌∙◌, sym, append_assoc, length-set, arith}
use Rattle.std.specs.List.{concat, range_with_len}
use Rattle.jb_cert.specs.WrapAround.{slots_of_round}
use Rattle.jb_texts.specs.PlanText.{lane_text}
use Rattle.jb_texts.proofs.Lanes.{lane-before}
use Rattle.jb_texts.proofs.plan.lanes.write_lanes.Goals as goal

pub loop-behind-preserved : goal.loop-behind-preserved
loop-behind-preserved c =
    let load = c.args.cursor.now in
    let text = lane_text (slots_of_round load.counts load.threads c.args.round) in
    let so_far = c.loop-behind.invariant in
    let behind = c.loop-behind.behind in
    let this = text (c.args.lanes - 1 - behind) in
    let others = concat (map text (range_with_len (c.args.lanes - behind) behind)) in
    let rest = drop c.args.end c.args.line.now in
    record {
      begin = (omega (arith, so_far.begin, c.write_lane-at.ensures.begin), omega (arith, so_far.begin, c.write_lane-at.ensures.begin));
      line = omega (arith, so_far.line);
      written = c.write_lane-at.ensures.written ∙ (λ i. this ++ so_far.written i) ∙ sym (append_assoc this others rest)
          ∙ (λ i. sym (lane-before text c.args.lanes behind c.loop-behind-test.true) i ++ rest);
      near = length-set c.loop-behind.near (c.args.lanes - 1 - behind) c.write_lane-at.result.1 ∙ so_far.near;
    }
