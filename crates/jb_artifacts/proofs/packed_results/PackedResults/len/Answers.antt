use Rattle.std.proofs.Common.{◌≡◌, length, arith, rules}
use Rattle.jb_artifacts.proofs.Packing.{count_is}
use Rattle.jb_artifacts.proofs.packed_results.PackedResults.len.Goals as goal

pub returns : goal.returns
returns c = let count = count_is c.self.inside.numbers.items c.self.inside.texts c.args.self.now c.self.view_is c.self.invariant in let len : c.len.result ≡ length c.self.inside.numbers.items = search rules in omega arith
