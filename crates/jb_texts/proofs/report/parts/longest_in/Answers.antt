use Rattle.std.proofs.Common.{◌≡◌, ◌+◌, max, length, [], get_or, drop, arith}
use Rattle.std.proofs.lemmas.List.{at_drop_more, at_drop_all}
use Rattle.jb_texts.specs.inside.Parts.{longest}
use Rattle.jb_texts.proofs.report.parts.longest_in.Goals as goal

pub loop-place-preserved : goal.loop-place-preserved
loop-place-preserved c =
    let results = c.args.results.now in
    let i = c.loop-place.place in
    let step : longest (drop i results) ≡ max (length (get_or results i [])) (longest (drop (i + 1) results)) =
    at_drop_more longest results i [] (omega arith) in
    grind arith

pub returns : goal.returns
returns c =
    let step : longest (drop c.loop-place.place c.args.results.now) ≡ 0 =
    at_drop_all longest c.args.results.now c.loop-place.place (omega arith) in
    grind arith
