use Rattle.std.proofs.Common.{◌==◌, ◌∙◌, ap, rules}
use Rattle.std.specs.Slice.Iter.{split_rest, split_done, split_callee}
use Rattle.std.proofs.lemmas.Iterator.{YieldsList-from_map_by}
use Rattle.std.proofs.lemmas.Iterator.Consumers.{map_from_collect}
use Rattle.std.proofs.lemmas.Iterator.Splits.{YieldsList-from_slice_split}
use Rattle.jb_ready.specs.Lines.{without_last, carriage_return, line_feed}
use Rattle.jb_ready.proofs.lines.parts_of.Goals as goal

pub returns : goal.returns
returns c = map_from_collect _ c.collect.ensures.ran (
    YieldsList-from_map_by _ (λ r. r.now) (without_last carriage_return) (
    YieldsList-from_slice_split _ (λ b. b == line_feed) c.args.text.now
    (ap split_rest c.map.ensures.source ∙ c.split.ensures.rest)
    (ap split_done c.map.ensures.source ∙ c.split.ensures.done)
    (ap split_callee c.map.ensures.source ∙ c.split.ensures.closure)
    (λ x b q k. search rules)
    ) c.map.ensures.closure (λ x r q k. search rules)
    )
