use Rattle.std.proofs.Common.{rules}
use Rattle.jb_chunk.proofs.task.collect_values.Goals as goal

pub returns : goal.returns
returns g c = search rules
