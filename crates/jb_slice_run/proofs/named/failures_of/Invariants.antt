use Rattle.std.proofs.Common.{◌≡◌, ◌++◌, drop, map}
use Rattle.jb_slice_run.specs.Named.{failure_in, failures_by, faults_held}
use Rattle.jb_slice_run.proofs.named.failures_of.Given as goal

-- those that failed, and those to come
abbrev pub invariant-loop-faults : goal.invariant-loop-faults
invariant-loop-faults l = record {
  number : l.partition ≡ l.faults-index;
  all : map failure_in l.all.items ++ failures_by l.partition l.rows (map faults_held (drop l.faults-index l.partitions)) ≡ failures_by 0 l.fn.rows (map faults_held l.partitions);
}
