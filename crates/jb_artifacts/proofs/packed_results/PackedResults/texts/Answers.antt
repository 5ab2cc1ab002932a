use Rattle.jb_artifacts.proofs.Packing.{texts_are}
use Rattle.jb_artifacts.proofs.packed_results.PackedResults.texts.Goals as goal

pub returns : goal.returns
returns c = texts_are c.self.inside.numbers.items c.self.inside.texts c.args.self.now c.self.view_is c.self.invariant
