use Rattle.std.proofs.Common.{map, sym, ap, ◌∙◌, Some}
use Rattle.serde_json.specs.View.{view}
use Rattle.jb_saved.specs.inside.Forms.{whole_numbers, state_in}
use Rattle.jb_saved.proofs.Numbers.{row-made}
use Rattle.jb_saved.proofs.form.row_from.Goals as goal

pub returns-clause-form : goal.returns-clause-form
returns-clause-form c =
    ap Some c.of_numbers.ensures.row
    ∙ sym (row-made (whole_numbers (map view c.args.members.now)) (state_in (view c.args.name.now)) c.in_ok-numbers.numbers c.in_ok-state.state (sym c.numbers_in.ensures ∙ c.in_ok-numbers.was) (sym c.state_in.ensures.form ∙ c.in_ok-state.was))
