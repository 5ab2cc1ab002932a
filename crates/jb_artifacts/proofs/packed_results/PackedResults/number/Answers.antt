use Rattle.std.proofs.Common.{◌<◌, length, ◌∙◌, arith, rules}
use Rattle.std.proofs.lemmas.List.{get_or_read}
use Rattle.jb_artifacts.proofs.Packing.{count_is, number_at}
use Rattle.jb_artifacts.proofs.packed_results.PackedResults.number.Goals as goal

pub index-requires : goal.index-requires
index-requires c = let count = count_is c.self.inside.numbers.items c.self.inside.texts c.args.self.now c.self.view_is c.self.invariant in let below : c.args.index < length c.self.inside.numbers.items = omega arith in search (rules, below)

pub returns : goal.returns
returns c =
    let count = count_is c.self.inside.numbers.items c.self.inside.texts c.args.self.now c.self.view_is c.self.invariant in
    let below : c.args.index < length c.self.inside.numbers.items = omega arith in
    get_or_read _ _ _ below c.index.ensures 0
    ∙ number_at c.self.inside.numbers.items c.self.inside.texts c.args.self.now c.self.view_is c.self.invariant c.args.index c.requires
