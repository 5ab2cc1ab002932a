use Rattle.std.proofs.Common.{length}
use Rattle.jb_records.proofs.artifacts.+artifacts_for.Given as goal

abbrev pub decreases-artifacts_for : goal.decreases-artifacts_for
decreases-artifacts_for g l = length l.partitions.now
