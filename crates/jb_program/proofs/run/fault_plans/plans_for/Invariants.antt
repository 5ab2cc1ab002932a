use Rattle.std.proofs.Common.{◌≡◌, take}
use Rattle.jb_artifacts.specs.Faults.{plans_of}
use Rattle.jb_program.specs.PartitionRun.{fault_plans}
use Rattle.jb_program.proofs.run.fault_plans.plans_for.Given as goal

-- the plans so far are those of the faults that have been passed
abbrev pub invariant-loop-fault : goal.invariant-loop-fault
invariant-loop-fault l = plans_of l.plans ≡ fault_plans (take l.fault-index l.fault-items)
