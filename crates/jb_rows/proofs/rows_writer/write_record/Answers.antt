use Rattle.std.proofs.Common.{◌≢◌, ◌∙◌}
use Rattle.csv.specs.declared.writer.QuoteStyle.TheVariants as style
use Rattle.jb_rows.specs.Streams.{csv_row}
use Rattle.jb_rows.proofs.rows_writer.write_record.Goals as goal

pub returns-in-Ok : goal.returns-in-Ok
unfolding csv_row
returns-in-Ok g c delimiter between =
    let setup = between.2 in
    let plain : c.args.writer.now.cfg.style ≢ style.NonNumeric = rw setup (λ e. cc e) in
    let text = c.in-Ok.ensures.bytes between.0 between.1 plain in
    ((c.in-Ok.ensures.ended, c.in-Ok.ensures.clean, c.in-Ok.ensures.setup ∙ setup), rw setup at text)
