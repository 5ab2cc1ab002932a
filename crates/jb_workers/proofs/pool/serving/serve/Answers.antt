use Rattle.std.proofs.Common.{rules}
use Rattle.jb_workers.proofs.pool.serving.serve.Goals as goal

pub returns-then-is_closed : goal.returns-then-is_closed
returns-then-is_closed g c = search rules
