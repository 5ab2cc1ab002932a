use Rattle.std.proofs.Common.{rules}
use Rattle.jb_job.proofs.job.Step.item_count.Goals as goal

pub returns-clause-value : goal.returns-clause-value
returns-clause-value c = search rules
