use Rattle.jb_slice_file.proofs.Opened.{shows_now}
use Rattle.jb_slice_file.proofs.opening.opened_laws.Goals as goal

pub returns-clause-shown : goal.returns-clause-shown
returns-clause-shown g c = shows_now _
