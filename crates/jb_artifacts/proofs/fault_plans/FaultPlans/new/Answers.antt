use Rattle.std.proofs.Common.{subst, sym}
use Rattle.jb_artifacts.specs.inside.FaultPlaces.{DoNumbersRise}
use Rattle.jb_artifacts.proofs.FaultPlaces.{none-yet}
use Rattle.jb_artifacts.proofs.fault_plans.FaultPlans.new.Goals as goal

pub invariant_of-result : goal.invariant_of-result
invariant_of-result c = subst DoNumbersRise (sym c.new.ensures.items) none-yet
