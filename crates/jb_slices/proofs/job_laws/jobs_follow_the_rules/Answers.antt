use Rattle.jb_slices.proofs.{Jobs.{completed, failed}, Ending.either}
use Rattle.jb_slices.proofs.job_laws.jobs_follow_the_rules.Goals as goal

pub returns : goal.returns
returns c = record { completed = completed; failed = failed; either = either }
