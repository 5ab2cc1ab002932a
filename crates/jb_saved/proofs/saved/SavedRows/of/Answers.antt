use Rattle.std.proofs.Common.{◌≡◌, List, sym, subst, ◌∙◌, None}
use Rattle.jb_base.specs.Name.{IsName}
use Rattle.jb_rules.specs.declared.row.Row.{Row}
use Rattle.jb_saved.specs.Answers.{first_running}
use Rattle.jb_saved.proofs.RowByRow.{kept_of}
use Rattle.jb_saved.proofs.saved.SavedRows.of.Goals as goal

pub invariant_of-result : goal.invariant_of-result
invariant_of-result c =
    let snapshot = c.args.snapshot.now in
    let id : c.args.step_id.now ≡ c.new-step.result = sym (c.new-step.ensures ∙ c.in_ok-from_str.ensures.ok) in
    let none : first_running c.deref.result.now ≡ None = cc (c.first_running.ensures, c.in_default.is) in
    kept_of c.new-step.result snapshot.rows.items c.in_ok-rows.rows.items snapshot.totals
    (subst IsName id c.requires)
    snapshot.sound
    (subst (λ (xs : List Row). first_running xs ≡ None) c.deref.ensures.value none)
    (c.in_ok-rows.ensures.items ∙ c.deref-2.ensures.value)
