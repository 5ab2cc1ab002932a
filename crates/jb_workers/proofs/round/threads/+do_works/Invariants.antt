use Rattle.std.proofs.Common.{vec_len}
use Rattle.jb_workers.proofs.round.threads.+do_works.Given as goal

abbrev pub decreases-do_works : goal.decreases-do_works
decreases-do_works g l = vec_len l.works
