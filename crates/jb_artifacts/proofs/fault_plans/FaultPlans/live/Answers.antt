use Rattle.std.proofs.Common.{◌≡◌, ℕ, ap, sym, subst, ◌∙◌, Some, None}
use Rattle.std.specs.Prelude.{slice_get}
use Rattle.jb_artifacts.specs.declared.faults.FaultPlan.{FaultPlan}
use Rattle.jb_artifacts.specs.Faults.{live}
use Rattle.jb_artifacts.specs.inside.FaultPlaces.{Entries, IsGapFor}
use Rattle.jb_artifacts.proofs.FaultPlaces.{found-at, none-at, read-is, live-where}
use Rattle.jb_artifacts.proofs.fault_plans.FaultPlans.live.Goals as goal

pub returns-in-Ok : goal.returns-in-Ok
returns-in-Ok c =
    let entries : Entries = c.self.inside.table.items in
    let number = c.args.number in
    let found = c.in-Ok.ensures in
    let is : slice_get entries c.in-Ok.place ≡ Some (number, found.0) = ap (λ (es : Entries). slice_get es c.in-Ok.place) (sym c.deref.ensures.value) ∙ found.1 in
    c.live.ensures ∙ ap (λ (e : ℕ × FaultPlan). live e.1) (read-is number entries c.in-Ok.place found.0 c.index.result.now is c.index.ensures)
    ∙ live-where number entries c.args.self.now (Some found.0) c.self.view_is (found-at number entries c.in-Ok.place found.0 c.self.invariant is)

pub returns-in-Err : goal.returns-in-Err
returns-in-Err c =
    let entries : Entries = c.self.inside.table.items in
    let number = c.args.number in
    let gap = subst (λ (es : Entries). IsGapFor number es c.in-Err.field-0) c.deref.ensures.value c.in-Err.ensures in
    live-where number entries c.args.self.now None c.self.view_is (none-at number entries c.in-Err.field-0 c.self.invariant gap)
