use Rattle.std.proofs.Common.{arith}
use Rattle.jb_job.proofs.Texts.{text_steps}
use Rattle.jb_job.proofs.tree.read_tree.Goals as goal

pub returns-in-Ok-clause-ok : goal.returns-in-Ok-clause-ok
returns-in-Ok-clause-ok c = grind (arith, text_steps)
