use Rattle.std.proofs.Common.{◌≡◌, ◌≤◌, length, take}
use Rattle.jb_records.specs.PartitionResults.{AreNumbered, joined}
use Rattle.jb_records.proofs.partition_results.partition_results_of.Given as goal

-- the shares so far are as many as their rows say, joined they are the results before the place, and these rows are there
abbrev pub invariant-loop-partition : goal.invariant-loop-partition
invariant-loop-partition l =
    AreNumbered (take l.partition l.prepared.rows) l.partition_results.items × (joined l.partition_results.items ≡ take l.place l.earlier) × (l.place ≤ length l.earlier) × (l.partition ≤ length l.prepared.rows)
