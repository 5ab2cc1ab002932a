use Rattle.jb_rules.proofs.RowTests.{rows_are_tested}
use Rattle.jb_rules.proofs.row.rows_are_tested.Goals as goal

pub returns : goal.returns
returns c = rows_are_tested
