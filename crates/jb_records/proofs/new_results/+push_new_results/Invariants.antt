use Rattle.std.proofs.Common.{length}
use Rattle.jb_records.proofs.new_results.+push_new_results.Given as goal

abbrev pub decreases-push_new_results : goal.decreases-push_new_results
decreases-push_new_results g l = length l.written_before.now
