use Rattle.std.proofs.Common.{arith}
use Rattle.jb_job.specs.Reading.{list_at}
use Rattle.jb_documents.proofs.Trees.{tree_steps}
use Rattle.jb_documents.proofs.kinds.list_by_value.Goals as goal

pub returns-then-high-len-clause-exact : goal.returns-then-high-len-clause-exact
unfolding list_at
returns-then-high-len-clause-exact c = grind (arith, tree_steps)
