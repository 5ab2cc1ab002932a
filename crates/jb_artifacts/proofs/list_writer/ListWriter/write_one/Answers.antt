use Rattle.std.proofs.Common.{rules}
use Rattle.jb_artifacts.proofs.list_writer.ListWriter.write_one.Goals as goal

pub returns-in-Some : goal.returns-in-Some
returns-in-Some c = search rules
