use Rattle.std.proofs.Common.{refl}
use Rattle.jb_rules.proofs.row.Row.numbers.Goals as goal

pub returns : goal.returns
returns c = refl
