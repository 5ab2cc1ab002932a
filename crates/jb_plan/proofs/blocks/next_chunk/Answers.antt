use Rattle.std.proofs.Common.{arith}
use Rattle.jb_plan.proofs.Following.{next-single, next-full}
use Rattle.jb_plan.proofs.blocks.next_chunk.Goals as goal

pub returns-then-at-redo-clause-next : goal.returns-then-at-redo-clause-next
returns-then-at-redo-clause-next c =
    next-single c.args.at c.args.redo c.args.hi c.args.item_count (omega arith) c.requires.redo_in

pub returns-else-at-redo-clause-next : goal.returns-else-at-redo-clause-next
returns-else-at-redo-clause-next c =
    rw c.min.ensures (next-full c.args.at c.args.redo c.args.hi c.args.item_count (omega arith) (omega arith) c.requires.some)
