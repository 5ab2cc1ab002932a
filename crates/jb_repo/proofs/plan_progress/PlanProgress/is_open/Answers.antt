use Rattle.std.proofs.Common.{rules}
use Rattle.jb_repo.proofs.plan_progress.PlanProgress.is_open.Goals as goal

pub returns-then-self : goal.returns-then-self
returns-then-self c = search rules
