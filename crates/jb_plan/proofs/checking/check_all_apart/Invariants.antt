use Rattle.std.proofs.Common.{◌≡◌, drop}
use Rattle.jb_plan.specs.Faults.{overlap_errors}
use Rattle.jb_plan.proofs.checking.check_all_apart.Given as goal

abbrev pub invariant-loop-i : goal.invariant-loop-i
invariant-loop-i l = overlap_errors 0 l.ranges ≡ overlap_errors l.i (drop l.i l.ranges)
