use Rattle.jb_job.proofs.JobRanges.{jobs-keep}
use Rattle.jb_job.proofs.laws.jobs_keep_ranges.Goals as goal

pub returns : goal.returns
returns c = jobs-keep
