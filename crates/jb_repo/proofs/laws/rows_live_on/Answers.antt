use Rattle.jb_repo.proofs.LawProofs.{rows_live_on}
use Rattle.jb_repo.proofs.laws.rows_live_on.Goals as goal

pub returns : goal.returns
returns c = rows_live_on c.lower_laws.ensures
