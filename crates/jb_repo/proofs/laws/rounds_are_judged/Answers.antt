use Rattle.jb_repo.proofs.Judging.{good_rounds_are_accepted, placed_stops_are_accepted}
use Rattle.jb_repo.proofs.laws.rounds_are_judged.Goals as goal

pub returns-clause-rounds : goal.returns-clause-rounds
returns-clause-rounds c = good_rounds_are_accepted

pub returns-clause-stops : goal.returns-clause-stops
returns-clause-stops c = placed_stops_are_accepted
