use Rattle.std.proofs.Common.{◌≡◌, map, replicate}
use Rattle.jb_slice_run.specs.Held.{new_output_in, no_new_output}
use Rattle.jb_slice_run.proofs.intervals.no_partitions.Given as goal

abbrev pub invariant-loop : goal.invariant-loop
invariant-loop l = map new_output_in l.partitions.items ≡ replicate l.counter no_new_output
