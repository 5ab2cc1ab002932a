use Rattle.std.proofs.Common.{rules}
use Rattle.jb_artifacts.proofs.table_reader.TableReaderItemReader.read_item.Goals as goal

pub returns-in-Some-clause-faulted : goal.returns-in-Some-clause-faulted
returns-in-Some-clause-faulted c = search rules
