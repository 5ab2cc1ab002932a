use Rattle.std.proofs.Common.{arith}
use Rattle.std.proofs.lemmas.Grind.{common_steps}
use Rattle.jb_documents.proofs.kinds.each.Goals as goal

pub returns-in_err-one : goal.returns-in_err-one
returns-in_err-one g c = grind (arith, common_steps)

pub loop-item-preserved : goal.loop-item-preserved
loop-item-preserved g c = grind (arith, common_steps)
