use Rattle.std.proofs.{Common.{map}, KnownBytes.{Appends-trans}, lemmas.List.{map-append}}
use Rattle.jb_rows.specs.{Fields.{fields_in}, Streams.{csv_rows}}
use Rattle.jb_csv_job.{specs.Sinks.{lines_written}, proofs.Writing.{lines-of-both}}
use Rattle.jb_csv_job.proofs.sink.CsvSinkSink.take.Goals as goal

pub returns-clause-taken : goal.returns-clause-taken
returns-clause-taken g c start before took delimiter between =
    let written = lines_written g.W.Write.contents in
    let (there, front) = took delimiter between in
    let (here, rest) = c.in_ok-write_packed.ensures delimiter there in
    (here, rw (map-append, lines-of-both) (Appends-trans (written start) (written c.args.self.now) _ (csv_rows delimiter (map fields_in before)) _ front rest))
