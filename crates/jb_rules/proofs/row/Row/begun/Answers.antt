use Rattle.std.proofs.Common.{refl}
use Rattle.jb_rules.proofs.row.Row.begun.Goals as goal

pub returns-clause-row : goal.returns-clause-row
returns-clause-row c = refl
