use Rattle.std.proofs.Common.{◌≡◌, ◌++◌, ◌∷◌, [], Some, sym, ap, ◌∙◌}
use Rattle.std.specs.Prelude.{option_map}
use Rattle.serde_json.specs.Find as find
use Rattle.serde_json.specs.View.{view, items_view}
use Rattle.jb_saved.proofs.Numbers.{row-of-list, row-of-another}
use Rattle.jb_saved.proofs.form.row_of.Goals as goal

pub returns-then-members-listed-clause-form : goal.returns-then-members-listed-clause-form
returns-then-members-listed-clause-form c =
    let array : find.as_array (view c.args.tree.now) ≡ Some (items_view c.in_ok-as_array.field-0.now.items) = sym c.as_array.ensures ∙ ap (option_map (λ v. items_view v.now.items)) c.in_ok-as_array.was in
    let whole : c.in_ok-as_array.field-0.now.items ≡ c.in_ok-name.members.now ++ c.in_ok-name.name.now ∷ [] = sym c.deref.ensures.value ∙ c.in_ok-name.ensures.cases.0 in
    c.row_from.ensures.form
    ∙ sym (row-of-list c.args.version (view c.args.tree.now) _ c.in_ok-name.members.now c.in_ok-name.name.now array whole (c.if-members-listed.true ∙ c.listed.ensures))

pub returns-else-members-listed-clause-form : goal.returns-else-members-listed-clause-form
returns-else-members-listed-clause-form c =
    let array : find.as_array (view c.args.tree.now) ≡ Some (items_view c.in_ok-as_array.field-0.now.items) = sym c.as_array.ensures ∙ ap (option_map (λ v. items_view v.now.items)) c.in_ok-as_array.was in
    let whole : c.in_ok-as_array.field-0.now.items ≡ c.in_ok-name.members.now ++ c.in_ok-name.name.now ∷ [] = sym c.deref.ensures.value ∙ c.in_ok-name.ensures.cases.0 in
    sym (row-of-another c.args.version (view c.args.tree.now) _ c.in_ok-name.members.now c.in_ok-name.name.now array whole (λ len. c.if-members-listed.false (len ∙ sym c.listed.ensures)))
