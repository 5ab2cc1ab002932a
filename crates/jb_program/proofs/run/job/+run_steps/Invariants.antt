use Rattle.std.proofs.Common.{length}
use Rattle.jb_program.proofs.run.job.+run_steps.Given as goal

-- each call has a step less
abbrev pub decreases-run_steps : goal.decreases-run_steps
decreases-run_steps g l = length l.steps.now
