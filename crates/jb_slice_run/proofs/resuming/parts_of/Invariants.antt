use Rattle.std.{proofs.Common.{◌≡◌, ◌++◌, map}, specs.Vec.Iter.{into_iter_items}}
use Rattle.jb_slice_run.specs.{Held.{new_output_in}, Named.{faults_by, faults_held}, declared.partition_output.PartitionOutput.{PartitionOutput}}
use Rattle.jb_slice_run.proofs.resuming.parts_of.Given as goal

-- those so far, with those to come behind them
abbrev pub invariant-partitions : goal.invariant-partitions
invariant-partitions l = record {
  results : l.results.items ++ map (λ (n : PartitionOutput). n.results) (into_iter_items l.new_output-iterator) ≡ map (λ (n : PartitionOutput). n.results) l.fn.partitions.items;
  faults : map faults_held l.faults.items ++ map faults_by (map new_output_in (into_iter_items l.new_output-iterator)) ≡ map faults_by (map new_output_in l.fn.partitions.items);
}
