use Rattle.std.proofs.Common.{◌≡◌, List, length, map, replicate, drop}
use Rattle.jb_slice_file.specs.CheckpointBytes.{checkpoint_bytes}
use Rattle.jb_slices.specs.Checkpoint.{Checkpoint}
use Rattle.jb_slice_run.specs.{Held.{AreIntervalsOf, limits_in, limits_led, new_output_in, new_output_led, no_new_output}, SliceBytes.{AreStoredAs}}
use Rattle.jb_slice_run.proofs.intervals.read_slice.Given as goal

-- those to come, after what the ones so far have, give what all have
abbrev pub invariant-loop-checkpoint : goal.invariant-loop-checkpoint
invariant-loop-checkpoint l = record {
  number : length l.partitions.items ≡ l.count;
  read : (cs : List Checkpoint) → AreStoredAs cs (map checkpoint_bytes l.later) → AreIntervalsOf l.count cs
      → (limits_led (limits_in l.last) (drop l.checkpoint-index cs) ≡ limits_led (limits_in l.fn.limits) cs)
      × (new_output_led (map new_output_in l.partitions.items) (drop l.checkpoint-index cs) ≡ new_output_led (replicate l.count no_new_output) cs);
}
