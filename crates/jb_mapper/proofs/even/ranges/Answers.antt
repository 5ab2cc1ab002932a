use Rattle.std.proofs.Common.{rules, arith}
use Rattle.std.proofs.lemmas.List.FromFn.{map-range_with_len_more}
use Rattle.jb_mapper.specs.EvenCover.{even_range}
use Rattle.jb_mapper.proofs.even.ranges.Goals as goal

pub loop-i-preserved : goal.loop-i-preserved
loop-i-preserved c =
    let more = map-range_with_len_more (even_range c.args.records c.args.partitions) 0 c.loop-i.i c.loop-i.i (omega arith) in
    rw more (search rules)
