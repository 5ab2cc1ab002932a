use Rattle.std.proofs.Common.{rules}
use Rattle.jb_program.proofs.streams.error.ProgramError.status.Goals as goal

pub returns-in-Usage-clause-code : goal.returns-in-Usage-clause-code
returns-in-Usage-clause-code c = search rules
