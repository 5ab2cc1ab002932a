use Rattle.jb_step.proofs.run.Stepping.{status-later}
use Rattle.jb_step.proofs.step.run_step_by.Goals as goal

pub returns-in-Ok-end_step-clause-status : goal.returns-in-Ok-end_step-clause-status
returns-in-Ok-end_step-clause-status g c = status-later c.in-Ok.end.snapshot.rows.items _ _ _ _ c.in-Ok.ensures.status c.in-Ok-end_step.ensures.ending.ended_is
