use Rattle.std.proofs.Common.{arith}
use Rattle.std.proofs.lemmas.Grind.{common_steps}
use Rattle.jb_job.proofs.kinds.each_by_value.Goals as goal

pub returns-in_err-one-clause-exact : goal.returns-in_err-one-clause-exact
returns-in_err-one-clause-exact g c = grind (arith, common_steps)

pub loop-member-preserved : goal.loop-member-preserved
loop-member-preserved g c = grind (arith, common_steps)
