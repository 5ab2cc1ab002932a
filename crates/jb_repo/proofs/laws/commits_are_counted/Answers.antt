use Rattle.jb_repo.proofs.Counting.{commits_are_counted}
use Rattle.jb_repo.proofs.laws.commits_are_counted.Goals as goal

pub returns : goal.returns
returns c = commits_are_counted c.lower_laws.ensures
