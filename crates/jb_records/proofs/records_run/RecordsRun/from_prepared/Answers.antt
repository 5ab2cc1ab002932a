use Rattle.std.proofs.Common.{◌∙◌, ap, length, refl, sym}
use Rattle.std.proofs.lemmas.List.{length-map}
use Rattle.jb_step.specs.preparing.Setup.{unfinished}
use Rattle.jb_records.specs.declared.step.RecordsStep.{RecordsStep}
use Rattle.jb_records.proofs.Beginning.{as-many, kept-first, names-length}
use Rattle.jb_records.proofs.Begun.{same-artifacts}
use Rattle.jb_records.proofs.Calling.{first-artifacts-fit}
use Rattle.jb_records.proofs.records_run.RecordsRun.from_prepared.Goals as goal

pub numbered-requires : goal.numbered-requires
numbered-requires g c =
    sym (length-map c.in_ok-artifacts.artifacts.items _) ∙ as-many _ (unfinished c.args.job.prepared.rows) _ c.in_ok-artifacts.ensures.artifacts ∙ sym (names-length (unfinished c.args.job.prepared.rows)) ∙ sym (ap length c.needs.ensures)

pub returns-clause-kept : goal.returns-clause-kept
returns-clause-kept g c =
    let are = same-artifacts _ _ _ c.args.step.now.rules c.args.records.now _ c.args.job.results.items _ _ refl refl c.deref.ensures.value c.in_ok-artifacts.ensures.artifacts in
    kept-first _ c.args.step.now.rules c.args.records.now _ c.args.job.prepared c.args.job.results.items _ _ _ c.needs.ensures c.in_ok-artifacts-2.ensures (sym c.requires.same_rules) are
    (ap (λ (step : RecordsStep). step.id) c.in_ok-copy.ensures) c.len.ensures refl refl

pub returns-clause-fit : goal.returns-clause-fit
returns-clause-fit g c = first-artifacts-fit _ c.args.job.prepared.rules c.args.records.now c.args.job.prepared c.args.job.results.items _ c.requires.can (returns-clause-kept g c).artifacts
