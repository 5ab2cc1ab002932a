use Rattle.std.proofs.Common.{rules}
use Rattle.jb_program.proofs.run.rounds.run_failure.Goals as goal

pub returns-in-Workers-clause-why : goal.returns-in-Workers-clause-why
returns-in-Workers-clause-why c = search rules
