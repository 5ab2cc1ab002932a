use Rattle.std.proofs.Common.{length}
use Rattle.jb_records.proofs.artifacts.+are_never_skipped.Given as goal

abbrev pub decreases-are_never_skipped : goal.decreases-are_never_skipped
decreases-are_never_skipped l = length l.classes.now
