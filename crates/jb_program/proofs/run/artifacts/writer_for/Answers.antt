use Rattle.std.proofs.Common.{rules}
use Rattle.jb_program.proofs.run.artifacts.writer_for.Goals as goal

pub returns : goal.returns
returns c = search rules
