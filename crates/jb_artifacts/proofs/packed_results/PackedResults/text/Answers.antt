use Rattle.std.proofs.Common.{◌∙◌, arith}
use Rattle.jb_artifacts.proofs.Packing.{count_is, text_at}
use Rattle.jb_artifacts.proofs.packed_results.PackedResults.text.Goals as goal

pub at-requires : goal.at-requires
at-requires c =
    let count = count_is c.self.inside.numbers.items c.self.inside.texts c.args.self.now c.self.view_is c.self.invariant in
    let fit = c.self.invariant in
    omega arith

pub returns : goal.returns
returns c = c.at.ensures ∙ text_at c.self.inside.numbers.items c.self.inside.texts c.args.self.now c.self.view_is c.self.invariant c.args.index c.requires
