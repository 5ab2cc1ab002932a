use Rattle.std.proofs.Common.{arith}
use Rattle.jb_artifacts.proofs.Digits.{byte-before}
use Rattle.jb_artifacts.proofs.count_collector.write_colon.Goals as goal

pub returns-clause-written : goal.returns-clause-written
returns-clause-written c =
    let number = c.write_number-begin.ensures in
    byte-before c.write_number-begin.new.text c.write_number-begin.result 58 _ (omega (arith, c.requires.0, number.begin)) (omega (arith, c.requires.1, number.begin, number.room)) number.written
