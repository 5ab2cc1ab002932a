use Rattle.std.proofs.Common.{rules, ◌≡◌, ◌++◌, ◌⊎◌, Option, length, refl, ap, ◌∙◌}
use Rattle.jb_collect.specs.ReducerCalls.{calls_before}
use Rattle.jb_saved.specs.SavedRows.{SavedRows}
use Rattle.jb_step.specs.preparing.Setup.{overrides}
use Rattle.jb_program.specs.JobRun.{IsStepRefused}
use Rattle.jb_program.specs.Refusals.{Explains, RunningRounds}
use Rattle.jb_program.proofs.StepRuns.{handed-on, prepared-with, refused, step-run, within-prepared, artifacts-serve}
use Rattle.jb_program.proofs.run.step.run_job_step.Goals as goal

pub returns-in_err-prepared-clause-why : goal.returns-in_err-prepared-clause-why
returns-in_err-prepared-clause-why g c =
    let counted : c.len-count.result ≡ length c.args.supply.records = search rules in
    handed-on c.from_residual.result c.in_err-prepared.field-0.0 (λ e. Explains RunningRounds e ⊎ IsStepRefused c.args.step.now c.args.supply c.args.resume e) c.from_residual.ensures.1
    (refused c.args.step.now c.args.supply c.args.resume c.saved_state-saved.result.0 c.len-count.result c.in_err-prepared.field-0.0 counted c.saved_state-saved.ensures.saved c.in_err-prepared.ensures.why)

pub all_artifacts-requires : goal.all_artifacts-requires
all_artifacts-requires g c =
    let counted : c.len-count.result ≡ length c.into_list-records.result = search rules in
    let prepared = c.in_ok-prepared.ensures in
    within-prepared c.args.step.now c.args.resume c.len-count.result c.in_ok-prepared.prepared c.into_list-records.result c.as_slice-outputs.result.now
    (record { counted = counted; prepares = prepared-with _ _ c.args.resume _ _ c.saved_state-saved.ensures.saved prepared.runnable prepared.accepted prepared.prepared prepared.setup c.requires.held; outputs_are = search rules })

pub run_over_desk-requires-clause-fit : goal.run_over_desk-requires-clause-fit
run_over_desk-requires-clause-fit g c κs within =
    let counted : c.len-count.result ≡ length c.into_list-records.result = search rules in
    let prepared = c.in_ok-prepared.ensures in
    artifacts-serve c.args.step.now c.args.resume c.len-count.result c.in_ok-prepared.prepared c.into_list-records.result _ c.settings_for-settings.result _
    (record { counted = counted; prepares = prepared-with _ _ c.args.resume _ _ c.saved_state-saved.ensures.saved prepared.runnable prepared.accepted prepared.prepared prepared.setup c.requires.held; outputs_are = search rules })
    c.in_ok-artifacts.ensures

pub returns : goal.returns
returns g c =
    let counted : c.len-count.result ≡ length c.into_list-records.result = search rules in
    let saved_state : c.into_list-records.result ≡ c.args.supply.records = search rules in
    let prepared = c.in_ok-prepared.ensures in
    let calls = λ (rows : Option SavedRows). calls_before (overrides c.args.step.now.spec.replace rows) in
    let begins = c.in_ok-prepared.ensures.begun ∙ ap (λ cs. cs ++ calls c.saved_state-saved.result.0) c.new-reducer.ensures ∙ ap calls c.saved_state-saved.ensures.saved in
    let run = step-run c.lower_laws.ensures c.args.step.now c.args.supply c.args.round_limit c.args.resume c.len-count.result c.in_ok-prepared.prepared c.into_list-records.result _ c.settings_for-settings.result _
    c.in_ok-end.end.snapshot _ c.id.result.now c.in_ok-end.end.status c.in_ok-end.end.plans.items c.calls.result.now _ _ c.calls-2.result.now _ _
    (record { counted = counted; prepares = prepared-with _ _ c.args.resume _ _ c.saved_state-saved.ensures.saved prepared.runnable prepared.accepted prepared.prepared prepared.setup c.requires.held; outputs_are = search rules })
    saved_state c.settings_for-settings.ensures.settings
    (record { items = c.settings_for-settings.ensures.items; retried = c.settings_for-settings.ensures.retried })
    c.in_ok-artifacts.ensures c.new-analyzer.ensures c.in_ok-end.ensures.ran c.in_ok-end.ensures.headline c.in_ok-end.ensures.on_the_way c.in_ok-end.ensures.status begins c.in_ok-end.ensures.reducer
    c.id.ensures.value c.calls.ensures c.calls-2.ensures in
    record { ran = (_, run, refl, c.in_ok-write_step.ensures); why = tt }
