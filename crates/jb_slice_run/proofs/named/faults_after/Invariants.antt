use Rattle.std.proofs.Common.{◌≡◌, ◌++◌, drop, map}
use Rattle.jb_slice_run.specs.{Held.{new_output_in}, Named.{faults_grown, faults_held}}
use Rattle.jb_slice_run.proofs.named.faults_after.Given as goal

-- the faults of the partitions so far, and of those to come
abbrev pub invariant-loop-new : goal.invariant-loop-new
invariant-loop-new l = map faults_held l.all.items ++ faults_grown (map faults_held l.before) (map new_output_in (drop l.new-index l.new_output)) ≡ faults_grown (map faults_held l.fn.before) (map new_output_in l.new_output)
