use Rattle.jb_step.specs.inside.preparing.Preparing.{prepared_setup}
use Rattle.jb_step.proofs.plans.Holding.{all-begun}
use Rattle.jb_step.proofs.preparing.prepared.Prepared.begun_rows.Goals as goal

pub returns-clause-begun : goal.returns-clause-begun
returns-clause-begun c = rw c.as_slice.ensures.value (all-begun (prepared_setup c.self.inside) c.self.invariant.setup)
