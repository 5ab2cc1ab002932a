use Rattle.std.proofs.Common.{rules, tests, ◌≡◌, ◌==◌, ℕ, length, ltb, map, find, Some, None, cond, ap, sym, ◌∙◌}
use Rattle.std.specs.List.{position_or_len}
use Rattle.std.specs.Str.Lossy.{utf8_lossy}
use Rattle.std.proofs.lemmas.Iterator.{YieldsList-from_slice}
use Rattle.std.proofs.lemmas.Iterator.Search.{position_from_yields_List}
use Rattle.std.proofs.lemmas.Result.{IfOk-weaker}
use Rattle.jb_artifacts.specs.Writer.{Texts}
use Rattle.jb_program.specs.StepRun.{committed_of}
use Rattle.jb_program.specs.inside.Written.{outputs_by}
use Rattle.jb_program.proofs.Told.{found-at, found-none, others-found}
use Rattle.jb_program.proofs.run.report.take_results.Goals as goal
use Rattle.jb_program.proofs.run.report.take_results.Goals.{After-position}

-- the place of the partition's list, as the definitions find it
place-of : (c : After-position)
    → c.position.result ≡ cond (ltb (position_or_len (λ (one : ℕ × Texts). one.0 == c.args.partition) c.args.lists.now.items) (length c.args.lists.now.items)) (Some (position_or_len (λ (one : ℕ × Texts). one.0 == c.args.partition) c.args.lists.now.items)) None
place-of c = position_from_yields_List (λ one. one.0 == c.args.partition) _ _ c.position.result c.position.ensures.ran (YieldsList-from_slice c.args.lists.now.items (search rules)) (λ x b q k. search (rules, tests))

pub returns-in-Some-clause-results : goal.returns-in-Some-clause-results
returns-in-Some-clause-results c =
    let lists = c.args.lists.now.items in
    let p = c.args.partition in
    let is = sym c.in-Some.is ∙ place-of (goal.at.returns-in-Some-clause-results c).After-position in
    let found = found-at lists p c.in-Some.place c.remove.result is ∙ ap (λ one. Some one) (sym c.remove.ensures.value) in
    sym (ap (outputs_by (committed_of c.args.outputs.now (p, c.args.row.now))) found)

pub returns-in-Some-clause-others : goal.returns-in-Some-clause-others
returns-in-Some-clause-others c =
    let is = sym c.in-Some.is ∙ place-of (goal.at.returns-in-Some-clause-others c).After-position in
    λ other differs. ap (find (λ (one : ℕ × Texts). one.0 == other)) c.remove.ensures.items ∙ others-found c.args.lists.now.items c.args.partition c.in-Some.place c.remove.result is other differs

pub returns-in-None-clause-results : goal.returns-in-None-clause-results
returns-in-None-clause-results c =
    let p = c.args.partition in
    let missing = found-none c.args.lists.now.items p (sym c.in-None.is ∙ place-of (goal.at.returns-in-None-clause-results c).After-position) in
    IfOk-weaker c.committed_by.result _ _
    (λ results are. ap (map utf8_lossy) are ∙ sym (ap (outputs_by (committed_of c.args.outputs.now (p, c.args.row.now))) missing)) c.committed_by.ensures
