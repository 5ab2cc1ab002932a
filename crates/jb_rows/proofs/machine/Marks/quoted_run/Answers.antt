use Rattle.std.proofs.Common.{◌∙◌, get_or, refl, take}
use Rattle.std.proofs.lemmas.Bool.{ne_eqb}
use Rattle.std.proofs.lemmas.List.{take_more}
use Rattle.std.proofs.lemmas.List.Sums.{count_by_more_no}
use Rattle.csv.specs.Machine.{Runs}
use Rattle.csv.specs.declared.parser.State.TheVariants as st
use Rattle.csv.proofs.ReadFacts.{runs-step}
use Rattle.jb_rows.specs.Bytes.{is_line_feed, marks_config}
use Rattle.jb_rows.proofs.Runs.{quoted-step}
use Rattle.jb_rows.proofs.machine.Marks.quoted_run.Goals as goal

pub loop-index-init : goal.loop-index-init
unfolding Runs
loop-index-init c = record { runs = tt; lines = refl }

pub loop-index-preserved : goal.loop-index-preserved
loop-index-preserved c =
    let marks = c.args.self.now in
    let bytes = c.args.bytes.now in
    let byte = get_or bytes c.loop-index.index 0 in
    record {
      runs = rw (take_more bytes c.loop-index.index 0 c.loop-index-test.true) (runs-step (marks_config marks) st.InQuoted (take c.loop-index.index bytes) byte c.loop-index.invariant.runs
          (quoted-step marks.quoting marks.delimiter byte (ne_eqb byte 34 c.if-byte-eq34.false)));
      lines = count_by_more_no is_line_feed bytes c.loop-index.index 0 c.loop-index-test.true (ne_eqb byte 10 c.if-byte-eq10.false) ∙ c.loop-index.invariant.lines;
    }
