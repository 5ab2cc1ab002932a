use Rattle.std.proofs.Common.{◌∙◌, ◌++◌, ◌∷◌, [], Bool, ap, is_some, option_to_list, refl, sym}
use Rattle.std.proofs.lemmas.List.{append-nil}
use Rattle.std.specs.Arc.{arc_value}
use Rattle.jb_artifacts.specs.Faults.{plans_of}
use Rattle.jb_artifacts.specs.Writer.{numbered}
use Rattle.jb_rows.specs.Fields.{fields_in}
use Rattle.jb_records.specs.Artifacts.{record_of}
use Rattle.jb_records.specs.inside.Processing.{given_by}
use Rattle.jb_records.proofs.Processing.{answers, fails, fault-weaker, no-memory, processor_with}
use Rattle.jb_records.proofs.records_processor.RecordsProcessorPackingProcessor.pack_item.Goals as goal

pub returns-in_ok-push-in-Ok-true-clause-answered : goal.returns-in_ok-push-in-Ok-true-clause-answered
returns-in_ok-push-in-Ok-true-clause-answered g c =
    let F = g.F.StepFunction.function in
    let self = c.args.self.now in
    let n = c.args.number in
    let records = arc_value self.records in
    let record_is = c.record_of.ensures ∙ ap (λ rs. record_of self.first rs n) c.deref.ensures in
    let written_before = c.in_ok-outcome.ensures ∙ (λ i. (F (c.deref-2.ensures i)).answer ((c.of-record.ensures ∙ ap fields_in record_is) i)) in
    let all = answers (F (arc_value self.function)) self.first records n c.in_ok-outcome.outcome c.process.new.built (plans_of self.tries) (plans_of c.settled.new.tries) written_before c.in-Ok-true.field-0 c.in-Ok-true.ensures.answered in
    let given = sym (ap (λ b. given_by b c.process.new.built) c.in-Ok-true.field-0-test) ∙ all.1 in
    let old = c.args.results.now in (
      all.0,
      ap is_some given,
      all.2,
      c.in_ok-push-in-Ok-true.ensures.ok ∙ ap (λ text. old ++ (n, text) ∷ []) c.as_bytes.ensures.packed ∙ ap (λ o. old ++ option_to_list (numbered n o)) given,
    )

pub returns-in-Ok-false-clause-answered : goal.returns-in-Ok-false-clause-answered
returns-in-Ok-false-clause-answered g c =
    let F = g.F.StepFunction.function in
    let self = c.args.self.now in
    let n = c.args.number in
    let records = arc_value self.records in
    let record_is = c.record_of.ensures ∙ ap (λ rs. record_of self.first rs n) c.deref.ensures in
    let written_before = c.in_ok-outcome.ensures ∙ (λ i. (F (c.deref-2.ensures i)).answer ((c.of-record.ensures ∙ ap fields_in record_is) i)) in
    let all = answers (F (arc_value self.function)) self.first records n c.in_ok-outcome.outcome c.process.new.built (plans_of self.tries) (plans_of c.settled.new.tries) written_before c.in-Ok-false.field-0 c.in-Ok-false.ensures.answered in
    let given = sym (ap (λ b. given_by b c.process.new.built) c.in-Ok-false.field-0-test) ∙ all.1 in
    let old = c.args.results.now in
    (all.0, ap is_some given, all.2, sym (append-nil old) ∙ ap (λ o. old ++ option_to_list (numbered n o)) given)

pub returns-in-Err-clause-faulted : goal.returns-in-Err-clause-faulted
returns-in-Err-clause-faulted g c =
    let F = g.F.StepFunction.function in
    let self = c.args.self.now in
    let n = c.args.number in
    let records = arc_value self.records in
    let record_is = c.record_of.ensures ∙ ap (λ rs. record_of self.first rs n) c.deref.ensures in
    let written_before = c.in_ok-outcome.ensures ∙ (λ i. (F (c.deref-2.ensures i)).answer ((c.of-record.ensures ∙ ap fields_in record_is) i)) in
    fault-weaker Bool Bool _ _ c.in-Err.error (λ class strikes. let both = fails (F (arc_value self.function)) self.first records n c.in_ok-outcome.outcome c.process.new.built (plans_of self.tries) (plans_of c.settled.new.tries) written_before class strikes in (both.0, both.1, refl)) c.in-Err.ensures.faulted

pub returns-in_err-outcome-clause-no_memory : goal.returns-in_err-outcome-clause-no_memory
returns-in_err-outcome-clause-no_memory g c = no-memory c.from_residual.result (refl, refl)

pub returns-in_err-push-in-Ok-true-clause-no_memory : goal.returns-in_err-push-in-Ok-true-clause-no_memory
returns-in_err-push-in-Ok-true-clause-no_memory g c =
    let self = c.args.self.now in
    no-memory c.from_residual-in_err-push-in-Ok-true.result (ap (processor_with (g.F.StepFunction.function (arc_value self.function)) self.first (arc_value self.records)) c.in-Ok-true.ensures.answered.same, c.in_err-push-in-Ok-true.ensures.err)
