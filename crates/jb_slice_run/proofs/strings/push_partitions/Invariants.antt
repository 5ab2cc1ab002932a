use Rattle.std.{proofs.Common.{◌≡◌, ◌++◌, map}, specs.Vec.Iter.{into_iter_items}}
use Rattle.jb_slice_run.specs.{Held.{new_output_in}, Strings.{AreOutputsSmall, new_output_lists}}
use Rattle.jb_slice_run.proofs.strings.push_partitions.Given as goal

-- the lists so far, with those to come behind them
abbrev pub invariant-partitions : goal.invariant-partitions
invariant-partitions l = record {
  lists : l.lists.items ++ new_output_lists (map new_output_in (into_iter_items l.new_output-iterator)) ≡ l.fn.lists.items ++ new_output_lists (map new_output_in l.fn.partitions.items);
  small : AreOutputsSmall (map new_output_in (into_iter_items l.new_output-iterator)) → AreOutputsSmall (map new_output_in l.fn.partitions.items);
}
