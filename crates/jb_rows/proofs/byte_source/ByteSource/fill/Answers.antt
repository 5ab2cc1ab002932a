use Rattle.jb_rows.proofs.Passing.{keeps-same}
use Rattle.jb_rows.proofs.byte_source.ByteSource.fill.Goals as goal

pub returns-then-not-is_empty-clause-keeps : goal.returns-then-not-is_empty-clause-keeps
returns-then-not-is_empty-clause-keeps g c = keeps-same _
