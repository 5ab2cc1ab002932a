use Rattle.std.proofs.Common.{rules}
use Rattle.jb_rules.proofs.row.RowState.name.Goals as goal

pub returns-in-Failed : goal.returns-in-Failed
returns-in-Failed c = search rules
