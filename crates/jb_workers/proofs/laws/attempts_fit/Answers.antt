use Rattle.jb_workers.proofs.Fitting.{attempts_fit}
use Rattle.jb_workers.proofs.laws.attempts_fit.Goals as goal

pub returns : goal.returns
returns c = attempts_fit c.attempts_are_steps.ensures.delta c.tasks_stand_at_checkpoints.ensures
