use Rattle.jb_mapper.proofs.EvenRanges.{is_even_cover}
use Rattle.jb_mapper.proofs.even.even_cover.Goals as goal

pub returns : goal.returns
returns c = is_even_cover c.args.records c.args.partitions c.requires
