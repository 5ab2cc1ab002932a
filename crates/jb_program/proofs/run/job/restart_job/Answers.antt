use Rattle.std.proofs.Common.{rules, ◌≡◌, ◌⊎◌, refl, subst, sym, IfErr, List, Some, drop}
use Rattle.std.proofs.lemmas.Result.{err_from_is_err_and}
use Rattle.std.specs.List.{zip}
use Rattle.jb_job.specs.Records.{StepRecord}
use Rattle.jb_documents.specs.declared.run.step_data.StepData.{StepData}
use Rattle.jb_program.specs.declared.streams.error.ProgramError.{ProgramError}
use Rattle.jb_program.specs.JobRun.{AreStepReports, IsRefusedAtStep, earlier}
use Rattle.jb_program.specs.Refusals.{Explains, RunningRounds}
use Rattle.jb_program.proofs.run.job.restart_job.Goals as goal

pub returns-clause-ran : goal.returns-clause-ran
returns-clause-ran g c =
    let ran = c.in_ok-status.ensures.ran in
    let document = c.args.document in
    let id = document.resume.saved.step in
    let steps : c.as_slice.result.now ≡ document.job.steps = search rules in
    let supplies : c.into_vec.result.items ≡ document.step_data = search rules in
    let own = subst (λ (ds : List StepData). AreStepReports (drop (earlier id c.as_slice.result.now) (zip c.as_slice.result.now ds)) c.args.round_limit (Some document.resume) ran.0) supplies ran.1 in (
      record { job = document.job.id; status = c.in_ok-status.status; steps = ran.0 },
      record {
        job = refl;
        steps = subst (λ (ss : List StepRecord). AreStepReports (drop (earlier id ss) (zip ss document.step_data)) c.args.round_limit (Some document.resume) ran.0) steps own;
        ended = ran.2;
      },
      refl,
      search rules,
    )

pub returns-in_err-status-clause-why : goal.returns-in_err-status-clause-why
returns-in_err-status-clause-why g c =
    let document = c.args.document in
    let id = document.resume.saved.step in
    let e = c.in_err-status.field-0.0 in
    let steps : c.as_slice.result.now ≡ document.job.steps = search rules in
    let supplies : c.into_vec.result.items ≡ document.step_data = search rules in
    let P : List StepRecord → List StepData → ProgramError → Type 0 = λ ss ds failure. Explains RunningRounds failure ⊎ IsRefusedAtStep (drop (earlier id ss) (zip ss ds)) c.args.round_limit (Some document.resume) failure in
    let own : P c.as_slice.result.now document.step_data e = subst (λ (ds : List StepData). P c.as_slice.result.now ds e) supplies c.in_err-status.ensures.why in
    let why : P document.job.steps document.step_data e = subst (λ (ss : List StepRecord). P ss document.step_data e) steps own in
    let found = err_from_is_err_and c.from_residual-in_err-status.result c.from_residual-in_err-status.ensures.1 in
    subst (λ ran. IfErr ran (P document.job.steps document.step_data)) (sym found.1) (subst (P document.job.steps document.step_data) (sym found.2) why)
