use Rattle.jb_step.proofs.Computed.{worked}
use Rattle.jb_step.proofs.worked.worked_rows.Goals as goal

pub returns : goal.returns
returns c = worked c.lower_laws.ensures
