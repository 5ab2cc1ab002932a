use Rattle.std.proofs.Common.{rules}
use Rattle.jb_chunk.proofs.task.ended_row.Goals as goal

pub returns-in-Rolled-clause-row : goal.returns-in-Rolled-clause-row
returns-in-Rolled-clause-row c = search rules

pub returns-in-Rolled-clause-sound : goal.returns-in-Rolled-clause-sound
returns-in-Rolled-clause-sound c = search rules
