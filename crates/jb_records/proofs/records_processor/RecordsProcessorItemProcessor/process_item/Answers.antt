use Rattle.std.proofs.Common.{◌∙◌, Bool, Option, Some, ap, sym}
use Rattle.std.specs.Arc.{arc_value}
use Rattle.jb_artifacts.specs.Faults.{plans_of}
use Rattle.jb_artifacts.specs.declared.item.Item.{Item}
use Rattle.jb_rows.specs.Fields.{fields_in}
use Rattle.jb_records.specs.Artifacts.{record_of}
use Rattle.jb_records.specs.inside.Processing.{given_by}
use Rattle.jb_records.proofs.Processing.{answers, fails, fault-weaker, no-memory, processor_with}
use Rattle.jb_records.proofs.records_processor.RecordsProcessorItemProcessor.process_item.Goals as goal

pub returns-in_ok-item-in-Ok-true-clause-answered : goal.returns-in_ok-item-in-Ok-true-clause-answered
returns-in_ok-item-in-Ok-true-clause-answered g c =
    let F = g.F.StepFunction.function in
    let self = c.args.self.now in
    let n = c.args.number in
    let records = arc_value self.records in
    let record_is = c.record_of.ensures ∙ ap (λ rs. record_of self.first rs n) c.deref.ensures in
    let written_before = c.in_ok-outcome.ensures ∙ (λ i. (F (c.deref-2.ensures i)).answer ((c.of-record.ensures ∙ ap fields_in record_is) i)) in
    let all = answers (F (arc_value self.function)) self.first records n c.in_ok-outcome.outcome c.process.new.built (plans_of self.tries) (plans_of c.settled.new.tries) written_before c.in-Ok-true.field-0 c.in-Ok-true.ensures.answered in
    let given = ap (λ b. given_by b c.process.new.built) c.in-Ok-true.field-0-test in
    (all.0, ap Some (c.in_ok-item-in-Ok-true.ensures ∙ c.as_bytes.ensures.packed) ∙ sym given ∙ all.1, all.2)

pub returns-in-Ok-false-clause-answered : goal.returns-in-Ok-false-clause-answered
returns-in-Ok-false-clause-answered g c =
    let F = g.F.StepFunction.function in
    let self = c.args.self.now in
    let n = c.args.number in
    let records = arc_value self.records in
    let record_is = c.record_of.ensures ∙ ap (λ rs. record_of self.first rs n) c.deref.ensures in
    let written_before = c.in_ok-outcome.ensures ∙ (λ i. (F (c.deref-2.ensures i)).answer ((c.of-record.ensures ∙ ap fields_in record_is) i)) in
    let all = answers (F (arc_value self.function)) self.first records n c.in_ok-outcome.outcome c.process.new.built (plans_of self.tries) (plans_of c.settled.new.tries) written_before c.in-Ok-false.field-0 c.in-Ok-false.ensures.answered in
    let given = ap (λ b. given_by b c.process.new.built) c.in-Ok-false.field-0-test in
    (all.0, sym given ∙ all.1, all.2)

pub returns-in-Err-clause-faulted : goal.returns-in-Err-clause-faulted
returns-in-Err-clause-faulted g c =
    let F = g.F.StepFunction.function in
    let self = c.args.self.now in
    let n = c.args.number in
    let records = arc_value self.records in
    let record_is = c.record_of.ensures ∙ ap (λ rs. record_of self.first rs n) c.deref.ensures in
    let written_before = c.in_ok-outcome.ensures ∙ (λ i. (F (c.deref-2.ensures i)).answer ((c.of-record.ensures ∙ ap fields_in record_is) i)) in
    fault-weaker Bool (Option Item) _ _ c.in-Err.error (fails (F (arc_value self.function)) self.first records n c.in_ok-outcome.outcome c.process.new.built (plans_of self.tries) (plans_of c.settled.new.tries) written_before) c.in-Err.ensures.faulted

pub returns-in_err-item-in-Ok-true-clause-no_memory : goal.returns-in_err-item-in-Ok-true-clause-no_memory
returns-in_err-item-in-Ok-true-clause-no_memory g c =
    let self = c.args.self.now in
    no-memory c.from_residual-in_err-item-in-Ok-true.result (ap (processor_with (g.F.StepFunction.function (arc_value self.function)) self.first (arc_value self.records)) c.in-Ok-true.ensures.answered.same)
