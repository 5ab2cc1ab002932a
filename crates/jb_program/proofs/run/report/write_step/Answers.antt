use Rattle.std.proofs.Common.{rules, ◌≡◌, ◌++◌, List, OnOk, flat_map, ap, subst, ◌∙◌}
use Rattle.std.specs.List.{enumerate_from}
use Rattle.json.specs.Token.{Token}
use Rattle.jb_step.specs.Answers.{given_back}
use Rattle.jb_program.proofs.Own.{own_artifacts}
use Rattle.jb_program.proofs.Told.{all-written, outputs_at, step-written}
use Rattle.jb_program.proofs.run.report.write_step.Goals as goal

pub returns : goal.returns
returns c =
    let left = given_back own_artifacts c.args.end.artifacts.items in
    let rows = c.args.end.snapshot.rows.items in
    let written : c.add_all_outputs.new.text ≡ c.begin_step.new.self ++ flat_map (outputs_at c.args.outputs.now left) (enumerate_from 0 rows) =
    c.in_ok-add_all_outputs.ensures ∙ ap (λ ts. c.begin_step.new.self ++ ts) (all-written c.args.outputs.now left _ c.as_slice-rows.result.now c.in_ok-lists.ensures)
    ∙ ap (λ rows. c.begin_step.new.self ++ flat_map (outputs_at c.args.outputs.now left) (enumerate_from 0 rows)) c.as_slice-rows.ensures.value in
    subst (λ (ts : List Token). OnOk c.end_step.result (c.end_step.new.self ≡ ts))
    (step-written c.args.id.now c.args.end.status c.args.outputs.now rows left c.args.heard.now c.args.end.plans.items c.args.reducer.now
    c.args.text.now c.begin_step.new.self c.add_all_outputs.new.text (search rules) written)
    (search rules)
