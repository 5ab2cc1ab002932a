use Rattle.std.proofs.Common.{rules, ◌≡◌, ◌++◌, ltb, slice_range, ◌∙◌, append_assoc}
use Rattle.json.specs.Print.{print}
use Rattle.serde_json.specs.Written.{comma_if}
use Rattle.jb_texts.specs.inside.Parts.{results_tokens}
use Rattle.jb_texts.proofs.report.outputs.with_range.Goals as goal

pub returns : goal.returns
returns c =
    let block = c.args.block.items in
    let comma = comma_if (ltb 0 c.args.from) in
    let results = results_tokens (slice_range c.args.results.now c.args.from c.args.to) in
    let before : c.write_range.new.out.before ≡ block ++ comma = search rules in
    let tokens : c.write_range.new.out.tokens ≡ results = search rules in
    c.into_inner.ensures.items ∙ (λ i. before i ++ print (tokens i)) ∙ append_assoc block comma (print results)
