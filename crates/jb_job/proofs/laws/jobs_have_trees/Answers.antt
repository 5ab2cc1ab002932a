use Rattle.jb_job.proofs.JobTrees.{job-back}
use Rattle.jb_job.proofs.laws.jobs_have_trees.Goals as goal

pub returns : goal.returns
returns c = job-back
