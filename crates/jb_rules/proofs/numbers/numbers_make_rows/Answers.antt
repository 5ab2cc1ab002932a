use Rattle.jb_rules.proofs.Places.{numbers-make-rows}
use Rattle.jb_rules.proofs.numbers.numbers_make_rows.Goals as goal

pub returns : goal.returns
returns c = numbers-make-rows
