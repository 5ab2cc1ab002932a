use Rattle.std.proofs.Common.{rules}
use Rattle.jb_program.specs.FailureText.{refusal_line}
use Rattle.jb_program.proofs.streams.error.ProgramErrorDisplay.fmt.Goals as goal

pub returns-in-Document : goal.returns-in-Document
unfolding refusal_line
returns-in-Document g c = search rules
