use Rattle.jb_slices.proofs.Jobs.{all, all_skips, front}
use Rattle.jb_slices.proofs.job_laws.jobs_have_results.Goals as goal

pub returns : goal.returns
returns c = record { all = all; skips = all_skips; front = front }
