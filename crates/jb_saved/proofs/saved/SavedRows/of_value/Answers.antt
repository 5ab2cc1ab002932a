use Rattle.std.proofs.Common.{◌≡◌, None, List, subst}
use Rattle.jb_rules.specs.declared.row.Row.{Row}
use Rattle.jb_saved.specs.Reading.{first_unfit}
use Rattle.jb_saved.proofs.RowByRow.{kept}
use Rattle.jb_saved.proofs.Unfit.{all-fit}
use Rattle.jb_saved.proofs.saved.SavedRows.of_value.Goals as goal

pub invariant_of-result : goal.invariant_of-result
invariant_of-result c =
    let parts = c.in_ok-step.ensures in
    let rows = c.in_ok-step.rows.items in
    let none : first_unfit c.deref.result.now ≡ None = cc (c.first_unfit.ensures, c.in-None.is) in
    kept c.in_ok-step.step rows parts.named parts.some parts.few parts.still
    (all-fit c.rows_are_tested.ensures rows (subst (λ (xs : List Row). first_unfit xs ≡ None) c.deref.ensures.value none))
