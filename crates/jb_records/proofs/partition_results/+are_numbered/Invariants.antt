use Rattle.std.proofs.Common.{length}
use Rattle.jb_records.proofs.partition_results.+are_numbered.Given as goal

abbrev pub decreases-are_numbered : goal.decreases-are_numbered
decreases-are_numbered l = length l.rows.now
