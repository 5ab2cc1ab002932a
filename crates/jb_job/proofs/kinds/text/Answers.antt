use Rattle.std.proofs.Common.{rules}
use Rattle.jb_job.specs.Reading.{text_at}
use Rattle.jb_job.proofs.kinds.text.Goals as goal

pub returns-else-low-text-clause-exact : goal.returns-else-low-text-clause-exact
unfolding text_at
returns-else-low-text-clause-exact c = search rules
