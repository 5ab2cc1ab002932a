use Rattle.std.proofs.Common.{refl}
use Rattle.std.specs.Arc.{arc_value}
use Rattle.jb_records.proofs.Processing.{reads-on}
use Rattle.jb_records.proofs.records_reader.RecordsReaderLendingReader.pass_item.Goals as goal

pub returns-clause-answered : goal.returns-clause-answered
returns-clause-answered c = (refl, reads-on c.args.self.now.first c.args.self.now.place (arc_value c.args.self.now.records))
