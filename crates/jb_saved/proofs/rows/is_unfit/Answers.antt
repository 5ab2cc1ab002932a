use Rattle.std.proofs.Common.{◌≡◌, true, not, sym, ap, ◌∙◌}
use Rattle.std.specs.Prelude.{◌||◌}
use Rattle.jb_rules.specs.RowTest.{is_sound}
use Rattle.jb_saved.specs.Reading.{overlaps_some}
use Rattle.jb_saved.proofs.rows.is_unfit.Goals as goal

pub returns-else-not-sound : goal.returns-else-not-sound
returns-else-not-sound c =
    let sound : is_sound c.args.row.now ≡ true = cc (c.sound.ensures.test, c.if-not-sound.false) in
    c.overlaps_some.ensures ∙ sym (ap (λ b. not b || overlaps_some c.args.earlier.now c.args.row.now) sound)
