use Rattle.std.proofs.Common.{◌<◌, ◌≤◌, arith, length, map, subst, ◌∙◌}
use Rattle.std.specs.Io.KnownBytes.{Appends}
use Rattle.std.proofs.lemmas.List.{take_all}
use Rattle.csv.proofs.WriteFacts.{appends-none}
use Rattle.jb_rows.specs.Fields.{fields_in}
use Rattle.jb_rows.specs.Streams.{csv_rows, rows_written}
use Rattle.jb_rows.proofs.Lines.{one-written}
use Rattle.jb_rows.proofs.rows_writer.RowsWriter.write_packed.Goals as goal

pub loop-index-init : goal.loop-index-init
loop-index-init g c delimiter between = (between, appends-none (rows_written g.W.Write.contents c.args.self.now))

pub loop-index-preserved : goal.loop-index-preserved
loop-index-preserved g c delimiter between =
    let test = c.loop-index-test.true in
    let count = c.len-index-end.ensures in
    let below : c.loop-index.index < length c.args.records.now = omega arith in
    let before = c.loop-index.invariant delimiter between in
    let one = c.in_ok-write_record.ensures delimiter before.0 in
    (one.0, one-written delimiter _ _ _ c.args.records.now c.loop-index.index c.at.result.now _ below c.at.ensures (c.in_ok-copy_to.ensures ∙ c.of.ensures) before.1 one.1)

pub returns : goal.returns
returns g c delimiter between =
    let test = c.loop-index-test.false in
    let count = c.len-index-end.ensures in
    let past : length c.args.records.now ≤ c.loop-index.index = omega arith in
    let done = c.loop-index.invariant delimiter between in (
      done.0,
      subst (λ records. Appends (rows_written g.W.Write.contents c.args.self.now) (rows_written g.W.Write.contents c.loop-index.self) (csv_rows delimiter (map fields_in records)))
          (take_all c.loop-index.index c.args.records.now past) done.1,
    )
