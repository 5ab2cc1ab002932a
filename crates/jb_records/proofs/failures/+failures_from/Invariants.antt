use Rattle.std.proofs.Common.{length}
use Rattle.jb_records.proofs.failures.+failures_from.Given as goal

abbrev pub decreases-failures_from : goal.decreases-failures_from
decreases-failures_from g l = length l.rows.now
