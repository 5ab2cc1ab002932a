use Rattle.std.proofs.Common.{length}
use Rattle.jb_ready.proofs.fault_class.+sets_of.Given as goal

abbrev pub decreases-sets_of : goal.decreases-sets_of
decreases-sets_of l = length l.classes.now
