use Rattle.std.proofs.Common.{◌≡◌, take, map, length}
use Rattle.jb_rules.specs.Rows.{range_of}
use Rattle.jb_repo.proofs.opening.write_ranges.Given as goal

abbrev pub invariant-loop-i : goal.invariant-loop-i
invariant-loop-i l = (take l.i l.ranges ≡ map range_of (take l.i l.rows)) × (length l.ranges ≡ length l.initial.ranges)
