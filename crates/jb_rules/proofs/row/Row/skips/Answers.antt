use Rattle.std.proofs.Common.{refl}
use Rattle.jb_rules.proofs.row.Row.skips.Goals as goal

pub returns-clause-value : goal.returns-clause-value
returns-clause-value c = refl
