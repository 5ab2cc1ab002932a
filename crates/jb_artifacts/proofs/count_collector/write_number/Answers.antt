use Rattle.std.proofs.Common.{arith}
use Rattle.jb_artifacts.proofs.Digits.{count-length}
use Rattle.jb_artifacts.proofs.count_collector.write_number.Goals as goal

pub write_digits-requires : goal.write_digits-requires
write_digits-requires c = (omega (arith, count-length c.args.number c.ranges.number.fits, c.requires.0), c.requires.1)

pub returns-clause-begin : goal.returns-clause-begin
returns-clause-begin c =
    let long = count-length c.args.number c.ranges.number.fits in
    (omega (arith, c.write_digits.ensures.start), omega (arith, long, c.write_digits.ensures.start))
