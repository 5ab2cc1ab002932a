use Rattle.std.proofs.Common.{rules}
use Rattle.jb_artifacts.proofs.list_writer.ListWriterItemWriter.open_at.Goals as goal

pub returns : goal.returns
returns c = search rules
