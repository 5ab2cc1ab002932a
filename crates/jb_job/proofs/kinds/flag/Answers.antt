use Rattle.std.proofs.Common.{rules}
use Rattle.jb_job.specs.Reading.{flag_at}
use Rattle.jb_job.proofs.kinds.flag.Goals as goal

pub returns : goal.returns
unfolding flag_at
returns c = search rules
