use Rattle.std.proofs.Common.{rules}
use Rattle.jb_repo.proofs.marks.Marks.note.Goals as goal

pub returns-in-Round : goal.returns-in-Round
returns-in-Round c = search rules
