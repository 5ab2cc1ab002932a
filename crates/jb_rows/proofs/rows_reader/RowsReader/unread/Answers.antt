use Rattle.jb_rows.specs.Texts.{config_of}
use Rattle.jb_rows.proofs.Streams.{begun}
use Rattle.jb_rows.proofs.rows_reader.RowsReader.unread.Goals as goal

pub returns-clause-given : goal.returns-clause-given
returns-clause-given g c =
    begun (config_of c.args.options.now) g.R.Read.remaining c.new.result (g.R.Read.remaining c.args.from) c.new.ensures.source c.new.ensures.marks c.new.ensures.line
