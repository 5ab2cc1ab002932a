use Rattle.std.proofs.Common.{rules}
use Rattle.jb_repo.proofs.steps.is_commit.Goals as goal

pub returns-then-is_delta : goal.returns-then-is_delta
returns-then-is_delta c = search rules
