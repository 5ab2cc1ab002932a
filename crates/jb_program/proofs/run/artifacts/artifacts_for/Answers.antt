use Rattle.std.proofs.Common.{◌≡◌, ap, ◌∙◌}
use Rattle.std.specs.Arc.{arc_value}
use Rattle.jb_program.specs.PartitionRun.{records_in, opening_artifacts}
use Rattle.jb_program.proofs.Own.{own_artifacts}
use Rattle.jb_program.proofs.run.artifacts.artifacts_for.Goals as goal

pub returns : goal.returns
returns c =
    let made : own_artifacts (record { inner = record { reader = c.in_ok-reader_for.field-0; processor = c.in_ok-processor_for.field-0; writer = c.in_ok-writer_for.field-0; collector = c.new.result } }) ≡ opening_artifacts c.args.step.now (records_in (arc_value c.args.records) c.args.range) c.args.held c.args.range = λ i. record {
      reader = c.in_ok-reader_for.ensures i;
      processor = c.in_ok-processor_for.ensures i;
      writer = c.in_ok-writer_for.ensures i;
      collector = c.new.ensures i;
    } in
    ap own_artifacts c.in_ok-boxed.ensures ∙ made
