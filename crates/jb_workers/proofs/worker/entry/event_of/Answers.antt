use Rattle.std.proofs.Common.{rules}
use Rattle.jb_workers.proofs.worker.entry.event_of.Goals as goal

pub returns-in-Rolled-clause-event : goal.returns-in-Rolled-clause-event
returns-in-Rolled-clause-event c = search rules

pub returns-in-Rolled-clause-commit : goal.returns-in-Rolled-clause-commit
returns-in-Rolled-clause-commit c = search rules

pub returns-in-Failed-clause-event : goal.returns-in-Failed-clause-event
returns-in-Failed-clause-event c = search rules
