use Rattle.std.proofs.Common.{ap, sym, subst, ◌∙◌}
use Rattle.jb_rows.specs.Fields.{IsPacked, fields_in}
use Rattle.jb_rows.proofs.Packing.{fields-of-none, is-packed-none}
use Rattle.jb_rows.proofs.row_builder.RowBuilder.clear.Goals as goal

pub invariant_of-self : goal.invariant_of-self
invariant_of-self c = subst IsPacked (sym c.clear.ensures.items) is-packed-none

pub returns : goal.returns
returns c = ap fields_in c.clear.ensures.items ∙ fields-of-none
