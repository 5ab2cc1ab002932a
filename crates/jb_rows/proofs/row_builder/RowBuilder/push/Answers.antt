use Rattle.std.proofs.Common.{[], ◌∷◌, ◌++◌, ap, sym, subst, ◌∙◌}
use Rattle.jb_rows.specs.Fields.{IsPacked}
use Rattle.jb_rows.proofs.Packing.{fields-more, is-packed-more, is-packed-none}
use Rattle.jb_rows.proofs.row_builder.RowBuilder.push.Goals as goal

pub invariant_of-self : goal.invariant_of-self
invariant_of-self c = is-packed-more c.self.inside.bytes.items c.args.field.now c.pack.new.bytes.items c.self.invariant c.in-Ok.ensures

pub invariant_of-self-in-Err : goal.invariant_of-self-in-Err
invariant_of-self-in-Err c = subst IsPacked (sym c.clear.ensures.items) is-packed-none

pub returns-in-Ok : goal.returns-in-Ok
returns-in-Ok c =
    fields-more c.self.inside.bytes.items c.args.field.now c.pack.new.bytes.items c.self.invariant c.in-Ok.ensures
    ∙ ap (λ fields. fields ++ c.args.field.now ∷ []) c.self.view_is
