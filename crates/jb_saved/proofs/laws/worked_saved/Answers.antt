use Rattle.jb_saved.proofs.Worked.{worked}
use Rattle.jb_saved.proofs.laws.worked_saved.Goals as goal

pub returns : goal.returns
returns c = worked
