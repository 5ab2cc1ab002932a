use Rattle.std.proofs.Common.{rules}
use Rattle.jb_program.proofs.streams.error.ProgramErrorFromRestartFault.from.Goals as goal

pub returns-in-Saved : goal.returns-in-Saved
returns-in-Saved c = search rules
