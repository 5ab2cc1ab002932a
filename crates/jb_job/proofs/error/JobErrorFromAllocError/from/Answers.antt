use Rattle.std.proofs.Common.{refl}
use Rattle.jb_job.proofs.error.JobErrorFromAllocError.from.Goals as goal

pub returns : goal.returns
returns c = refl
