use Rattle.jb_repo.proofs.Reopening.{openings_are_accepted, rows_may_be_opened_again}
use Rattle.jb_repo.proofs.laws.openings_are_accepted.Goals as goal

pub returns-clause-opened : goal.returns-clause-opened
returns-clause-opened c = openings_are_accepted

pub returns-clause-again : goal.returns-clause-again
returns-clause-again c = rows_may_be_opened_again c.lower_laws.ensures
