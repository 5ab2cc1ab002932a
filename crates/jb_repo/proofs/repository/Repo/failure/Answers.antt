use Rattle.std.proofs.Common.{rules}
use Rattle.jb_repo.proofs.repository.Repo.failure.Goals as goal

pub returns-then-partition-len : goal.returns-then-partition-len
returns-then-partition-len c = search rules
