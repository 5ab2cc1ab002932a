use Rattle.std.proofs.Common.{◌≡◌, ◌≤◌, length, map, take}
use Rattle.jb_records.proofs.new_results.written_counts.Given as goal

-- the numbers of the rows so far, and these rows are there
abbrev pub invariant-loop-partition : goal.invariant-loop-partition
invariant-loop-partition l = (l.written_before.items ≡ map (λ row. row.written) (take l.partition l.prepared.rows)) × (l.partition ≤ length l.prepared.rows)
