use Rattle.std.proofs.Common.{rules}
use Rattle.jb_repo.proofs.steps.step.Goals as goal

pub returns-in-Roll : goal.returns-in-Roll
returns-in-Roll c = search rules
