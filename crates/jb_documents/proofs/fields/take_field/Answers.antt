use Rattle.std.proofs.Common.{subst}
use Rattle.jb_job.specs.Names.{name_of}
use Rattle.jb_documents.proofs.Apart.{Takes, takes_field}
use Rattle.jb_documents.proofs.fields.take_field.Goals as goal

pub returns-in-Object : goal.returns-in-Object
returns-in-Object c =
    let t = subst (λ name. Takes name c.in-Object.members.items c.take_last-taken.result c.take_last-taken.new.members.items) c.name.ensures c.take_last-taken.ensures in
    let is = takes_field (name_of c.args.field) c.args.tree c.in-Object.members c.take_last-taken.new.members c.take_last-taken.result c.in-Object.is t in
    record { taken = is.part; others = is.others; readable = is.readable; rest = is.readable_rest }
