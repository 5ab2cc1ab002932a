use Rattle.std.proofs.Common.{length}
use Rattle.jb_program.proofs.run.job.+run_later_steps.Given as goal

-- each call has a step less
abbrev pub decreases-run_later_steps : goal.decreases-run_later_steps
decreases-run_later_steps g l = length l.steps.now
