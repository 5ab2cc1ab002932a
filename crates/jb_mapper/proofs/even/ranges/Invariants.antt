use Rattle.std.proofs.Common.{◌≡◌}
use Rattle.std.specs.Prelude.{map}
use Rattle.std.specs.List.{range_with_len}
use Rattle.jb_mapper.specs.EvenCover.{even_range}
use Rattle.jb_mapper.proofs.even.ranges.Given as goal

abbrev pub invariant-loop-i : goal.invariant-loop-i
invariant-loop-i l = l.ranges.items ≡ map (even_range l.records l.partitions) (range_with_len 0 l.i)
