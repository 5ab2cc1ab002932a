use Rattle.std.proofs.Common.{◌≡◌, ℕ, set, ap, sym, subst, ◌∙◌, Some}
use Rattle.std.specs.Prelude.{slice_get}
use Rattle.std.specs.List.{insert}
use Rattle.jb_artifacts.specs.declared.faults.FaultPlan.{FaultPlan}
use Rattle.jb_artifacts.specs.Faults.{plans_of, with_plan}
use Rattle.jb_artifacts.specs.inside.FaultPlaces.{Entries, DoNumbersRise, IsGapFor}
use Rattle.jb_artifacts.proofs.FaultPlaces.{read-is, changed-at, changed-order, inserted-at, inserted-order}
use Rattle.jb_artifacts.proofs.FaultTables.{planned}
use Rattle.jb_artifacts.proofs.fault_plans.FaultPlans.insert.Goals as goal
use Rattle.jb_artifacts.proofs.fault_plans.FaultPlans.insert.Goals.{In-Ok, In-Err}

-- the plan that was found
place-of : (c : In-Ok) → slice_get c.self.inside.table.items c.in-Ok.place ≡ Some (c.args.number, c.in-Ok.ensures.0)
place-of c = ap (λ (es : Entries). slice_get es c.in-Ok.place) (sym c.deref.ensures.value) ∙ c.in-Ok.ensures.1

-- where none was found
gap-of : (c : In-Err) → IsGapFor c.args.number c.self.inside.table.items c.in-Err.place
gap-of c = subst (λ (es : Entries). IsGapFor c.args.number es c.in-Err.place) c.deref.ensures.value c.in-Err.ensures

pub invariant_of-self : goal.invariant_of-self
invariant_of-self c =
    let entries : Entries = c.self.inside.table.items in
    let found = c.in-Ok.ensures in
    let is = place-of (goal.at.invariant_of-self c).In-Ok in
    subst (λ (e : ℕ × FaultPlan). DoNumbersRise (set entries c.in-Ok.place (e.0, c.args.plan))) (sym (read-is c.args.number entries c.in-Ok.place found.0 c.index_mut.result.now is c.index_mut.ensures.value))
    (changed-order c.args.number entries c.in-Ok.place found.0 c.args.plan c.self.invariant is)

pub returns-in-Ok-clause-ok : goal.returns-in-Ok-clause-ok
returns-in-Ok-clause-ok c =
    let entries : Entries = c.self.inside.table.items in
    let number = c.args.number in
    let found = c.in-Ok.ensures in
    let is = place-of (goal.at.returns-in-Ok-clause-ok c).In-Ok in
    ap (λ (e : ℕ × FaultPlan). plans_of (set entries c.in-Ok.place (e.0, c.args.plan))) (read-is number entries c.in-Ok.place found.0 c.index_mut.result.now is c.index_mut.ensures.value)
    ∙ planned entries (set entries c.in-Ok.place (number, c.args.plan)) number c.args.plan (changed-at number entries c.in-Ok.place found.0 c.args.plan c.self.invariant is)
    ∙ ap (λ (es : Entries). with_plan (plans_of es) number c.args.plan) c.self.view_is

pub invariant_of-self-in-Err : goal.invariant_of-self-in-Err
invariant_of-self-in-Err c =
    subst DoNumbersRise (sym c.in_ok-insert-in-Err.ensures.items)
    (inserted-order c.args.number c.self.inside.table.items c.in-Err.place c.args.plan c.self.invariant (gap-of (goal.at.invariant_of-self-in-Err c).In-Err))

pub returns-in_ok-insert-in-Err-clause-ok : goal.returns-in_ok-insert-in-Err-clause-ok
returns-in_ok-insert-in-Err-clause-ok c =
    let entries : Entries = c.self.inside.table.items in
    let number = c.args.number in
    let gap = gap-of (goal.at.returns-in_ok-insert-in-Err-clause-ok c).In-Err in
    ap plans_of c.in_ok-insert-in-Err.ensures.items
    ∙ planned entries (insert entries c.in-Err.place (number, c.args.plan)) number c.args.plan (inserted-at number entries c.in-Err.place c.args.plan c.self.invariant gap)
    ∙ ap (λ (es : Entries). with_plan (plans_of es) number c.args.plan) c.self.view_is
