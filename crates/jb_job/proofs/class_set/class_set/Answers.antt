use Rattle.std.proofs.Common.{rules}
use Rattle.jb_job.specs.JobRecord.{set_at}
use Rattle.jb_job.specs.Reading.{optional}
use Rattle.jb_job.proofs.class_set.class_set.Goals as goal

pub returns : goal.returns
unfolding set_at optional
returns c = search rules
