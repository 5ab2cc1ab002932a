use Rattle.std.proofs.Common.{◌≡◌, take, length}
use Rattle.jb_base.specs.Limits.{max_partitions}
use Rattle.jb_repo.proofs.projection.Projection.new.Given as goal

abbrev pub invariant-loop-i : goal.invariant-loop-i
invariant-loop-i l = (length l.rows ≡ max_partitions) × (take l.i l.rows ≡ take l.i l.opening)
