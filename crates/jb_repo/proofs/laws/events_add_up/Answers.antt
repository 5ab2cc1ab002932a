use Rattle.jb_repo.proofs.Bounds.{chunks_are_ended, events_add_up}
use Rattle.jb_repo.proofs.laws.events_add_up.Goals as goal

pub returns-clause-ended : goal.returns-clause-ended
returns-clause-ended c = chunks_are_ended

pub returns-clause-kinds : goal.returns-clause-kinds
returns-clause-kinds c = events_add_up
