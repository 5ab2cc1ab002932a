use Rattle.std.proofs.Common.{◌≡◌, refl, subst, ◌∙◌}
use Rattle.std.specs.Io.KnownBytes.{Appends}
use Rattle.std.proofs.lemmas.Result.{on_ok_weaker}
use Rattle.jb_rows.specs.Streams.{csv_rows, kept_header, rows_written}
use Rattle.jb_rows.specs.Texts.{copied_by}
use Rattle.jb_rows.proofs.header.copy_header.Goals as goal

pub returns-in-Copied : goal.returns-in-Copied
returns-in-Copied g c = on_ok_weaker c.write_rows.result (λ written between.
    let options = c.args.options.now in
    let lines = written options.delimiter between in
    let same : kept_header c.args.reader.now ≡ copied_by options.header (kept_header c.args.reader.now) = rw c.in-Copied.is refl in
    (lines.0, subst (λ rows. Appends (rows_written g.W.Write.contents c.args.writer.now) (rows_written g.W.Write.contents c.write_rows.new.self) (csv_rows options.delimiter rows)) (c.header.ensures.kept ∙ same) lines.1)
    ) c.write_rows.ensures
