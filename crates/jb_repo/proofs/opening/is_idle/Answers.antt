use Rattle.std.proofs.Common.{rules}
use Rattle.jb_repo.proofs.opening.is_idle.Goals as goal

pub returns-then-sound : goal.returns-then-sound
returns-then-sound c = search rules
