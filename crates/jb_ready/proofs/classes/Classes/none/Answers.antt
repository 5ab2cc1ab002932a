use Rattle.std.proofs.Common.{refl, []}
use Rattle.jb_ready.proofs.ClassSets.{none-listed, set-listed}
use Rattle.jb_ready.proofs.classes.Classes.none.Goals as goal

pub returns-clause-set : goal.returns-clause-set
returns-clause-set c = set-listed 0 [] (none-listed 0 refl)
