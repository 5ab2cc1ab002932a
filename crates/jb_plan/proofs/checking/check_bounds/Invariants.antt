use Rattle.std.proofs.Common.{◌≡◌, drop}
use Rattle.jb_plan.specs.Faults.{bound_errors}
use Rattle.jb_plan.proofs.checking.check_bounds.Given as goal

abbrev pub invariant-loop-i : goal.invariant-loop-i
invariant-loop-i l = bound_errors l.records 0 l.ranges ≡ bound_errors l.records l.i (drop l.i l.ranges)
