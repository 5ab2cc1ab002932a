use Rattle.std.proofs.Common.{rules, ◌≡◌, ◌∷◌, ◌⊎◌, List, [], ap, sym, refl, ◌∙◌, length, false, Some, append-nil}
use Rattle.std.specs.Prelude.{bytes_eq}
use Rattle.std.proofs.lemmas.Result.{IfErr-weaker, IfOk-weaker}
use Rattle.jb_documents.specs.declared.run.step_data.StepData.{StepData}
use Rattle.jb_job.specs.Records.{StepRecord}
use Rattle.jb_program.specs.JobRun.{IsRefusedAtStep}
use Rattle.jb_program.specs.Refusals.{Explains, RunningRounds}
use Rattle.jb_program.proofs.Steps.{LeftOf, from-later, head-removed, no-data, no-steps}
use Rattle.jb_program.proofs.run.job.+run_later_steps.Goals as goal

pub returns-in_default-clause-ran : goal.returns-in_default-clause-ran
returns-in_default-clause-ran g t c =
    let none : length c.args.steps.now ≡ 0 = search rules in
    ([], no-steps c.args.resume.saved.step c.args.steps.now c.args.supplies.items c.args.round_limit (Some c.args.resume) none, refl, sym (append-nil c.args.text.now))

pub returns-then-is_empty-clause-ran : goal.returns-then-is_empty-clause-ran
returns-then-is_empty-clause-ran g t c =
    let none : length c.args.supplies.items ≡ 0 = search rules in
    ([], no-data _ c.args.steps.now c.args.supplies.items c.args.round_limit (Some c.args.resume) none, refl, sym (append-nil c.args.text.now))

pub returns-clause-ran : goal.returns-clause-ran
returns-clause-ran g t c =
    let resume = c.args.resume in
    let steps : c.args.steps.now ≡ c.in-Some.step.now ∷ c.in-Some.rest.now = search rules in
    let some : length c.args.supplies.items ≡ 0 → ⊥ = λ e. search rules in
    let supplies : c.args.supplies.items ≡ c.remove.result ∷ c.remove.new.self.items =
    head-removed c.args.supplies.items c.remove.result some c.remove.ensures.value ∙ ap (λ rest. c.remove.result ∷ rest) (sym c.remove.ensures.items) in
    let other : bytes_eq c.in-Some.step.now.id resume.saved.step ≡ false = search rules in
    IfOk-weaker c.run_later_steps.result _ _
    (λ ended left. from-later (λ (pairs : List (StepRecord × StepData)). LeftOf pairs c.args.round_limit (Some resume) ended c.args.text.now c.run_later_steps.new.text) resume.saved.step
    c.args.steps.now c.in-Some.rest.now c.in-Some.step.now c.args.supplies.items c.remove.new.self.items c.remove.result steps supplies other left)
    c.run_later_steps.ensures.ran

pub returns-clause-why : goal.returns-clause-why
returns-clause-why g t c =
    let resume = c.args.resume in
    let steps : c.args.steps.now ≡ c.in-Some.step.now ∷ c.in-Some.rest.now = search rules in
    let some : length c.args.supplies.items ≡ 0 → ⊥ = λ e. search rules in
    let supplies : c.args.supplies.items ≡ c.remove.result ∷ c.remove.new.self.items =
    head-removed c.args.supplies.items c.remove.result some c.remove.ensures.value ∙ ap (λ rest. c.remove.result ∷ rest) (sym c.remove.ensures.items) in
    let other : bytes_eq c.in-Some.step.now.id resume.saved.step ≡ false = search rules in
    IfErr-weaker c.run_later_steps.result _ _
    (λ e left. from-later (λ (pairs : List (StepRecord × StepData)). Explains RunningRounds e ⊎ IsRefusedAtStep pairs c.args.round_limit (Some resume) e) resume.saved.step
    c.args.steps.now c.in-Some.rest.now c.in-Some.step.now c.args.supplies.items c.remove.new.self.items c.remove.result steps supplies other left)
    c.run_later_steps.ensures.why
