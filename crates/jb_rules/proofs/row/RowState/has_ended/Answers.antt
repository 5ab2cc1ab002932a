use Rattle.std.proofs.Common.{rules}
use Rattle.jb_rules.proofs.row.RowState.has_ended.Goals as goal

pub returns-in_default : goal.returns-in_default
returns-in_default c = search rules
