use Rattle.jb_job.proofs.JobTexts.{text-read}
use Rattle.jb_job.proofs.laws.jobs_have_texts.Goals as goal

pub returns : goal.returns
returns c = text-read
