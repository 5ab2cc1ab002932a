use Rattle.jb_step.proofs.restarts.Overriding.{overrides-begin-anew}
use Rattle.jb_step.proofs.laws.overrides_start_fresh.Goals as goal

pub returns : goal.returns
returns c = overrides-begin-anew
