use Rattle.std.proofs.Common.{rules}
use Rattle.jb_repo.proofs.repository.Repo.plan_refusal.Goals as goal

pub returns-then-not-is_good_plan : goal.returns-then-not-is_good_plan
returns-then-not-is_good_plan c = search rules

pub returns-then-is_full : goal.returns-then-is_full
returns-then-is_full c = search rules

pub returns-else-is_full : goal.returns-else-is_full
returns-else-is_full c = search rules
