use Rattle.jb_rules.proofs.RowTests.{unfinished_rows_go_on}
use Rattle.jb_rules.proofs.row.unfinished_rows_go_on.Goals as goal

pub returns : goal.returns
returns c = unfinished_rows_go_on
