use Rattle.jb_repo.proofs.Loads.{loads_fit, opening_loads_fit, waiting_rows_have_chunks}
use Rattle.jb_repo.proofs.laws.loads_fit.Goals as goal

pub returns-clause-now : goal.returns-clause-now
returns-clause-now c = loads_fit c.lower_laws.ensures

pub returns-clause-opening : goal.returns-clause-opening
returns-clause-opening c = opening_loads_fit c.lower_laws.ensures

pub returns-clause-waiting : goal.returns-clause-waiting
returns-clause-waiting c = waiting_rows_have_chunks c.lower_laws.ensures
