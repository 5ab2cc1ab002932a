use Rattle.jb_workers.proofs.Entering.{rows_agree}
use Rattle.jb_workers.proofs.laws.attempts_enter.Goals as goal

pub returns : goal.returns
returns c = rows_agree c.attempts_are_steps.ensures.repeats
