use Rattle.std.proofs.Common.{◌≡◌, ◌∙◌, false, ap, subst, sym}
use Rattle.jb_saved.specs.GoingOn.{ends_past}
use Rattle.jb_saved.specs.SavedRows.{SavedRows}
use Rattle.jb_records.proofs.Breaking.{unprepared-again}
use Rattle.jb_records.proofs.Causes.{handed-on}
use Rattle.jb_records.proofs.interval.going_on.Goals as goal

pub returns-in_err-prepared-clause-why : goal.returns-in_err-prepared-clause-why
returns-in_err-prepared-clause-why g c none past =
    let saved = c.in_ok-saved.saved in
    let own = c.in_ok-saved.ensures.ok in
    let within = subst (λ (held : SavedRows). ends_past c.args.count held.rows ≡ false) (sym own) past in
    handed-on c.from_residual-in_err-prepared.result c.in_err-prepared.field-0.0 _ c.from_residual-in_err-prepared.ensures.1
    (unprepared-again c.args.step c.args.count saved c.in_err-prepared.field-0.0 c.requires.few c.requires.runnable (ap (λ (held : SavedRows). held.step) own ∙ c.as_str.ensures.value) within c.in_err-prepared.ensures.why)
