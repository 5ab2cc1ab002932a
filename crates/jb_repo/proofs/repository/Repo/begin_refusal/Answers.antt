use Rattle.std.proofs.Common.{rules}
use Rattle.jb_repo.proofs.repository.Repo.begin_refusal.Goals as goal

pub returns-then-not-is_plan_open : goal.returns-then-not-is_plan_open
returns-then-not-is_plan_open c = search rules

pub returns-then-is_some_and : goal.returns-then-is_some_and
returns-then-is_some_and c = search rules

pub returns-else-is_some_and : goal.returns-else-is_some_and
returns-else-is_some_and c = search rules
