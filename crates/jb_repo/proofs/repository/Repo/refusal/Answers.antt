use Rattle.std.proofs.Common.{rules}
use Rattle.jb_repo.proofs.repository.Repo.refusal.Goals as goal

pub returns-in-Begin : goal.returns-in-Begin
returns-in-Begin c = search rules
