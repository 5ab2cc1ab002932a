use Rattle.std.proofs.Common.{rules}
use Rattle.jb_repo.proofs.repository.Repo.round_refusal.Goals as goal

pub returns-then-not-is_plan_open : goal.returns-then-not-is_plan_open
returns-then-not-is_plan_open c = search rules

pub returns-then-is_full : goal.returns-then-is_full
returns-then-is_full c = search rules

pub returns-else-is_full : goal.returns-else-is_full
returns-else-is_full c = search rules
