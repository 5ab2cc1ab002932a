use Rattle.std.proofs.Common.{rules}
use Rattle.jb_job.specs.JobRecord.{new_id_at}
use Rattle.jb_job.proofs.reading.new_id.Goals as goal

pub returns-else-has_id-clause-exact : goal.returns-else-has_id-clause-exact
unfolding new_id_at
returns-else-has_id-clause-exact c = search rules
