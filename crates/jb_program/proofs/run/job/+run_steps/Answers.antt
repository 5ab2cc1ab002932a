use Rattle.std.proofs.Common.{rules, ◌≡◌, ◌∷◌, [], ap, sym, refl, ◌∙◌, length, append-nil}
use Rattle.std.proofs.lemmas.Result.{IfOk-weaker}
use Rattle.jb_program.proofs.Steps.{completed-more, head-removed, no-data, other-last}
use Rattle.jb_program.proofs.run.job.+run_steps.Goals as goal

pub returns-then-is_empty-clause-ran : goal.returns-then-is_empty-clause-ran
returns-then-is_empty-clause-ran g t c =
    let none : length c.args.supplies.items ≡ 0 = search rules in
    ([], no-data 0 c.args.steps.now c.args.supplies.items c.args.round_limit c.args.resume none, refl, sym (append-nil c.args.text.now))

pub returns-in-Completed-clause-ran : goal.returns-in-Completed-clause-ran
returns-in-Completed-clause-ran g t c =
    let ran = c.in_ok-status.ensures.ran in
    let steps : c.args.steps.now ≡ c.in-Some.step.now ∷ c.in-Some.steps.now = search rules in
    let some : length c.args.supplies.items ≡ 0 → ⊥ = λ e. search rules in
    let supplies : c.args.supplies.items ≡ c.remove-supply.result ∷ c.remove-supply.new.self.items =
    head-removed c.args.supplies.items c.remove-supply.result some c.remove-supply.ensures.value ∙ ap (λ rest. c.remove-supply.result ∷ rest) (sym c.remove-supply.ensures.items) in
    IfOk-weaker c.run_steps.result _ _ (λ ended left. completed-more c.args.round_limit c.args.resume _ _ _ _ _ _ ran.0 ended _ _ _ steps supplies ran.1 (sym ran.2 ∙ c.in-Completed.is) ran.3 left) c.run_steps.ensures.ran

pub returns-in_default-2 : goal.returns-in_default-2
returns-in_default-2 g t c =
    let ran = c.in_ok-status.ensures.ran in
    let steps : c.args.steps.now ≡ c.in-Some.step.now ∷ c.in-Some.steps.now = search rules in
    let some : length c.args.supplies.items ≡ 0 → ⊥ = λ e. search rules in
    let supplies = head-removed c.args.supplies.items c.remove-supply.result some c.remove-supply.ensures.value in
    record { ran = other-last c.args.round_limit c.args.resume _ _ _ _ _ _ ran.0 _ _ _ steps supplies ran.1 ran.2 (λ e. c.in_default-2.not-Completed (ran.2 ∙ e)) ran.3; why = tt }
