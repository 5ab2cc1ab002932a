use Rattle.std.proofs.Common.{◌∙◌, ap}
use borrow.Pointer.Hide.{carried_sameᵐ}
use Rattle.jb_mapper.specs.Mapping.{Mapping}
use Rattle.jb_records.proofs.job.prepared_for.Goals as goal
use Rattle.jb_records.proofs.job.prepared_for.OwnLists as own

pub prepared_by-requires-clause-mapped : goal.prepared_by-requires-clause-mapped
prepared_by-requires-clause-mapped c =
    let meant = carried_sameᵐ _ _ own.entry-1-1 (own.own-1.entry own.at-1-1) own.same-1-1 Mapping (λ j y. j.1.mapping y.now) _ in
    ap (λ mapping. mapping c.args.records) meant ∙ ap (λ mapping. mapping c.args.records) c.new-mapper.ensures
