use Rattle.jb_repo.proofs.Judging.{good_commits_are_accepted, bad_commits_are_refused}
use Rattle.jb_repo.proofs.laws.commits_are_judged.Goals as goal

pub returns-clause-accepted : goal.returns-clause-accepted
returns-clause-accepted c = good_commits_are_accepted c.lower_laws.ensures

pub returns-clause-refused : goal.returns-clause-refused
returns-clause-refused c = bad_commits_are_refused c.lower_laws.ensures
