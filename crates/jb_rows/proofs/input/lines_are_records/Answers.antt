use Rattle.jb_rows.proofs.TextLines.{lines-are-records}
use Rattle.jb_rows.proofs.input.lines_are_records.Goals as goal

pub returns : goal.returns
returns c = lines-are-records
