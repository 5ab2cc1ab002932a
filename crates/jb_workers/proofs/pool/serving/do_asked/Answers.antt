use Rattle.std.proofs.Common.{rules}
use Rattle.jb_workers.proofs.pool.serving.do_asked.Goals as goal

pub answer-requires-clause-meets : goal.answer-requires-clause-meets
answer-requires-clause-meets g c κs within = search rules
