use Rattle.std.proofs.Common.{rules}
use Rattle.jb_workers.proofs.desk.Desk.apply.Goals as goal

pub returns-clause-accepted : goal.returns-clause-accepted
returns-clause-accepted g c = search rules
