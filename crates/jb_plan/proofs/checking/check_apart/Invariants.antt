use Rattle.std.proofs.Common.{◌≡◌, ◌+◌, drop}
use Rattle.jb_plan.specs.Faults.{overlaps_with}
use Rattle.jb_plan.proofs.checking.check_apart.Given as goal

abbrev pub invariant-loop-j : goal.invariant-loop-j
invariant-loop-j l = overlaps_with l.i l.range (l.i + 1) (drop (l.i + 1) l.ranges) ≡ overlaps_with l.i l.range l.j (drop l.j l.ranges)
