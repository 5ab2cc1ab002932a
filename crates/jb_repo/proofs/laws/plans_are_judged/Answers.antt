use Rattle.jb_repo.proofs.Judging.{good_plans_are_accepted, bad_plans_are_refused}
use Rattle.jb_repo.proofs.laws.plans_are_judged.Goals as goal

pub returns-clause-accepted : goal.returns-clause-accepted
returns-clause-accepted c = good_plans_are_accepted c.tests_are_exact.ensures.least

pub returns-clause-refused : goal.returns-clause-refused
returns-clause-refused c = bad_plans_are_refused c.tests_are_exact.ensures.least
