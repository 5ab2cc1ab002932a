use Rattle.std.proofs.Common.{arith}
use Rattle.jb_mapper.proofs.EvenRanges.{number, even_within, even_apart}
use Rattle.jb_mapper.proofs.even.even_plan_is_runnable.Goals as goal

pub returns : goal.returns
returns c =
    let count = number c.args.records c.args.partitions in
    let some = c.requires.some in
    let few = c.requires.few in
    record {
      some = omega (arith, count, some);
      few = omega (arith, count, few);
      within = even_within c.args.records c.args.partitions some;
      disjoint = even_apart c.args.records c.args.partitions;
      threads = c.requires.threads;
    }
