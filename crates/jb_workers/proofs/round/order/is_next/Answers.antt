use Rattle.std.proofs.Common.{rules}
use Rattle.jb_workers.proofs.round.order.is_next.Goals as goal

pub returns : goal.returns
returns g c = search rules
