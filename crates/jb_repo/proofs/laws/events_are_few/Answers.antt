use Rattle.jb_repo.proofs.Bounds.{events_are_few, kinds_are_few}
use Rattle.jb_repo.proofs.laws.events_are_few.Goals as goal

pub returns-clause-events : goal.returns-clause-events
returns-clause-events c = events_are_few

pub returns-clause-kinds : goal.returns-clause-kinds
returns-clause-kinds c = kinds_are_few
