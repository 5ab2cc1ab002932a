use Rattle.jb_plan.proofs.NoFaults.{found-disjoint}
use Rattle.jb_plan.proofs.checking.are_disjoint.Goals as goal

pub returns : goal.returns
returns c = rw c.is_ok.ensures.value (found-disjoint c.args.ranges.now c.check_all_apart.result c.check_all_apart.ensures)
