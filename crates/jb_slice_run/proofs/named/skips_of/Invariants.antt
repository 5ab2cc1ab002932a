use Rattle.std.proofs.Common.{◌≡◌, map, take}
use Rattle.jb_slice_run.specs.{Held.{faults_in}, Named.{faults_held, skips_by}}
use Rattle.jb_slice_run.proofs.named.skips_of.Given as goal

-- the faults of the partitions so far
abbrev pub invariant-loop-faults : goal.invariant-loop-faults
invariant-loop-faults l = faults_in l.all.items ≡ skips_by (map faults_held (take l.faults-index l.partitions))
