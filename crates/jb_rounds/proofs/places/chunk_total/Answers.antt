use Rattle.std.proofs.Common.{arith}
use Rattle.jb_rounds.proofs.PrefixSums.{last_start}
use Rattle.jb_rounds.proofs.places.chunk_total.Goals as goal

pub overflow_sub-result : goal.overflow_sub-result
overflow_sub-result c = omega (arith, (last_start c.args.starts.now c.requires).0)

pub returns : goal.returns
returns c = (last_start c.args.starts.now c.requires).1
