use Rattle.std.proofs.Common.{rules}
use Rattle.jb_artifacts.proofs.faults.FaultPlan.strike.Goals as goal

pub returns-in-Shaky-clause-plan : goal.returns-in-Shaky-clause-plan
returns-in-Shaky-clause-plan c = search rules
