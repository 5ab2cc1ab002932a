use Rattle.std.proofs.Common.{rules, ◌≡◌, List, subst, Ok, Err}
use Rattle.jb_artifacts.specs.Meaning.{ArtifactsMeaning}
use Rattle.jb_step.specs.preparing.Prepare.{DoFit}
use Rattle.jb_records.specs.declared.error.RecordsStepError.TheVariants.{Step}
use Rattle.jb_records.specs.Causes.{Explains, Run}
use Rattle.jb_records.proofs.Answered.{err-of, ok-of}
use Rattle.jb_records.proofs.Breaking.{run-broken}
use Rattle.jb_records.proofs.Causes.{handed-on}
use Rattle.jb_records.proofs.Ending.{ran-same}
use Rattle.jb_records.proofs.Steps.{stands}
use Rattle.jb_records.proofs.interval.ran.Goals as goal

pub returns-clause-ran : goal.returns-clause-ran
returns-clause-ran g c =
    let is : c.run_pooled_step-end.result.0 ≡ Ok c.in_ok-end.end = search rules in
    ran-same _ _ _ _ _ _ c.in_ok-artifacts.ensures (record {
      heard_before = _;
      heard_after = _;
      notes = _;
      fit = ok-of _ _ _ is c.run_pooled_step-end.ensures.fit;
      run = ok-of _ _ _ is c.run_pooled_step-end.ensures.run;
      headline = ok-of _ _ _ is c.run_pooled_step-end.ensures.headline;
      ways = ok-of _ _ _ is c.run_pooled_step-end.ensures.on_the_way;
    })

pub returns-clause-status : goal.returns-clause-status
returns-clause-status g c =
    let is : c.run_pooled_step-end.result.0 ≡ Ok c.in_ok-end.end = search rules in
    stands c.in_ok-end.end.snapshot _ _ c.run_pooled_step-end.result.1 c.run_pooled_step-end.result.2 c.in_ok-end.end.status (ok-of _ _ _ is c.run_pooled_step-end.ensures.status)

pub returns-in_err-end-clause-why : goal.returns-in_err-end-clause-why
returns-in_err-end-clause-why g c =
    let is : c.run_pooled_step-end.result.0 ≡ Err c.in_err-end.field-0.0 = search rules in
    let e = c.in_err-end.field-0.0 in
    handed-on c.from_residual-in_err-end.result (Step e) _ c.from_residual-in_err-end.ensures.1
    (subst (λ (ws : List ArtifactsMeaning). Explains (Run (DoFit c.args.prepared ws)) (Step e)) c.in_ok-artifacts.ensures
    (run-broken _ e (err-of _ _ _ is c.run_pooled_step-end.ensures.causes) (err-of _ _ _ is c.run_pooled_step-end.ensures.wrong)))
