use Rattle.std.proofs.Common.{◌≡◌, ◌≤◌, map, fold, length, string_bytes}
use Rattle.std.specs.Vec.Iter.{into_iter_items}
use Rattle.jb_job.specs.JobRecord.{with_name, distinct}
use Rattle.jb_job.proofs.class_list.distinct_classes.Given as goal

-- the classes so far, and then the other names, are the classes of all names
abbrev pub invariant-loop-name : goal.invariant-loop-name
invariant-loop-name l = record {
  so_far : fold with_name (map string_bytes l.classes.keys) (map string_bytes (into_iter_items l.name-iterator)) ≡ distinct (map string_bytes l.fn.names.items);
  few : length l.classes.keys ≤ length l.yielded;
}
