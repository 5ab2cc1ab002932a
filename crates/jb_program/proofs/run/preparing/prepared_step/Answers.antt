use Rattle.std.proofs.Common.{rules, ◌≡◌, Some, None, Ok, ap, sym, ◌∙◌}
use borrow.Pointer.Hide.{carried_sameᵐ}
use Rattle.jb_mapper.specs.Mapping.{Mapping}
use Rattle.jb_program.specs.JobRun.{plan_for}
use Rattle.jb_program.proofs.Prepared.{even-plan, own-plan}
use Rattle.jb_program.proofs.run.preparing.prepared_step.Goals as goal
use Rattle.jb_program.proofs.run.preparing.prepared_step.OwnLists as own

pub prepared_by-requires-clause-mapped : goal.prepared_by-requires-clause-mapped
prepared_by-requires-clause-mapped c =
    let spec = c.spec-spec.result.now in
    let records = c.args.records in
    let meant = carried_sameᵐ _ _ own.entry-1-1 (own.own-1.entry own.at-1-1) own.same-1-1 Mapping (λ j y. j.1.mapping y.now) _ in
    let made = ap (λ mapping. mapping records) c.new-mapper.ensures in
    let none : spec.ranges ≡ None = search rules in
    let planned = even-plan spec records c.partitions.result c.threads.result c.replace.result none c.partitions.ensures.value c.threads.ensures.value c.replace.ensures in
    ap (λ mapping. mapping records) meant ∙ made ∙ planned ∙ ap (λ s. Ok (plan_for s records)) c.spec-spec.ensures

pub prepared_by-requires-in-Some-clause-mapped : goal.prepared_by-requires-in-Some-clause-mapped
prepared_by-requires-in-Some-clause-mapped c =
    let spec = c.spec-spec.result.now in
    let records = c.args.records in
    let meant = carried_sameᵐ _ _ own.entry-1-2 (own.own-1.entry own.at-1-2) own.same-1-2 Mapping (λ j y. j.1.mapping y.now) _ in
    let made = ap (λ mapping. mapping records) c.new-mapper-in-Some.ensures in
    let copied : c.in_ok-copied-in-Some.field-0 ≡ c.in-Some.ranges.now = c.in_ok-copied-in-Some.ensures in
    let given : spec.ranges ≡ Some c.in-Some.ranges.now = search rules in
    let some : spec.ranges ≡ Some c.in_ok-copied-in-Some.field-0 = given ∙ ap (λ own. Some own) (sym copied) in
    let planned = own-plan spec records c.in_ok-copied-in-Some.field-0 c.threads-in-Some.result c.replace-in-Some.result some c.threads-in-Some.ensures.value c.replace-in-Some.ensures in
    ap (λ mapping. mapping records) meant ∙ made ∙ planned ∙ ap (λ s. Ok (plan_for s records)) c.spec-spec.ensures
