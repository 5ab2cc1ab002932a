use Rattle.std.proofs.Common.{◌≡◌, ◌+◌, max, get_or, drop, arith}
use Rattle.std.proofs.lemmas.List.{at_drop_more, at_drop_all}
use Rattle.jb_texts.specs.inside.Parts.{longest, longest_of_parts}
use Rattle.jb_texts.proofs.report.parts.longest_result.Goals as goal

pub loop-part-preserved : goal.loop-part-preserved
loop-part-preserved c =
    let parts = c.args.parts.now in
    let i = c.loop-part.part-index in
    let part = c.part-item.result in
    let step : longest_of_parts (drop i parts) ≡ max (longest (get_or parts i part).results) (longest_of_parts (drop (i + 1) parts)) =
    at_drop_more longest_of_parts parts i part (omega arith) in
    grind arith

pub returns : goal.returns
returns c =
    let step : longest_of_parts (drop c.loop-part.part-index c.args.parts.now) ≡ 0 =
    at_drop_all longest_of_parts c.args.parts.now c.loop-part.part-index (omega arith) in
    grind arith
