use Rattle.std.proofs.Common.{rules}
use Rattle.jb_rules.proofs.row.Row.fresh.Goals as goal

pub returns-then-range : goal.returns-then-range
returns-then-range c = search rules

pub returns-else-range : goal.returns-else-range
returns-else-range c = search rules
