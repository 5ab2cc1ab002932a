use Rattle.std.proofs.Common.{rules}
use Rattle.jb_program.proofs.program.status_of.Goals as goal

pub returns-in-Ok-clause-answered : goal.returns-in-Ok-clause-answered
returns-in-Ok-clause-answered g c = search rules
