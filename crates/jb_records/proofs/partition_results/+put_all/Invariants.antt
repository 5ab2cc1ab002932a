use Rattle.std.proofs.Common.{length}
use Rattle.jb_records.proofs.partition_results.+put_all.Given as goal

abbrev pub decreases-put_all : goal.decreases-put_all
decreases-put_all g l = length l.artifacts.now.items
