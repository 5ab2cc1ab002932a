use Rattle.std.proofs.Common.{rules}
use Rattle.jb_job.proofs.reading.read_job.Goals as goal

pub returns : goal.returns
returns c = search rules
