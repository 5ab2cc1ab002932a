use Rattle.std.proofs.Common.{rules}
use Rattle.jb_job.specs.Reading.{number_at}
use Rattle.jb_job.proofs.kinds.number.Goals as goal

pub returns-else-low-number-clause-exact : goal.returns-else-low-number-clause-exact
unfolding number_at
returns-else-low-number-clause-exact c = search rules
