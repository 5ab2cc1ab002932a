use Rattle.std.proofs.Common.{rules}
use Rattle.jb_workers.proofs.round.report.lower.Goals as goal

pub returns-then-lane-lowest : goal.returns-then-lane-lowest
returns-then-lane-lowest c = search rules

pub returns-else-lane-lowest : goal.returns-else-lane-lowest
returns-else-lane-lowest c = search rules
