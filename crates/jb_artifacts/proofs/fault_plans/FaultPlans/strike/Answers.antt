use Rattle.std.proofs.Common.{◌≡◌, ◌<◌, ℕ, length, set, rules, arith, ap, sym, subst, ◌∙◌, Some, None}
use Rattle.std.specs.Prelude.{slice_get}
use Rattle.std.specs.Ordering.{nat_cmp}
use Rattle.std.specs.BTreeMap.{is_at}
use Rattle.std.specs.Map.{lookup}
use Rattle.std.proofs.lemmas.Option.{slice_get_within}
use Rattle.jb_artifacts.specs.declared.faults.FaultPlan.{FaultPlan}
use Rattle.jb_artifacts.specs.Faults.{live, plans_of, used, used_at}
use Rattle.jb_artifacts.specs.inside.FaultPlaces.{Entries, DoNumbersRise, IsGapFor}
use Rattle.jb_artifacts.proofs.FaultPlaces.{found-at, none-at, read-is, changed-at, changed-order, live-where}
use Rattle.jb_artifacts.proofs.FaultTables.{idle, none-planned, struck, used_at-sound}
use Rattle.jb_artifacts.proofs.fault_plans.FaultPlans.strike.Goals as goal
use Rattle.jb_artifacts.proofs.fault_plans.FaultPlans.strike.Goals.{In-Ok, In-Err}

-- the plan that was found
place-of : (c : In-Ok) → slice_get c.self.inside.table.items c.in-Ok.place ≡ Some (c.args.number, c.in-Ok.ensures.0)
place-of c = ap (λ (es : Entries). slice_get es c.in-Ok.place) (sym c.deref.ensures.value) ∙ c.in-Ok.ensures.1

-- no plan was found
none-of : (c : In-Err) → lookup (is_at (nat_cmp c.args.number)) c.self.inside.table.items ≡ None
none-of c =
    none-at c.args.number c.self.inside.table.items c.in-Err.place c.self.invariant
    (subst (λ (es : Entries). IsGapFor c.args.number es c.in-Err.place) c.deref.ensures.value c.in-Err.ensures)

pub returns-then-is_empty-clause-plans : goal.returns-then-is_empty-clause-plans
returns-then-is_empty-clause-plans c = sym (used_at-sound (plans_of c.args.self.now) c.args.number (none-planned c.args.self.now c.args.number none))
  where
    none : length c.args.self.now ≡ 0
    none = ap length (sym c.self.view_is) ∙ search rules

pub index_mut-requires : goal.index_mut-requires
index_mut-requires c =
    let found = c.in-Ok.ensures in
    let within : c.in-Ok.place < length c.deref.result.now = slice_get_within c.deref.result.now c.in-Ok.place (c.args.number, found.0) found.1 in
    omega (arith, c.deref.ensures.len, within)

pub invariant_of-self : goal.invariant_of-self
invariant_of-self c =
    let entries : Entries = c.self.inside.table.items in
    let found = c.in-Ok.ensures in
    let is = place-of (goal.at.invariant_of-self c).In-Ok in
    subst (λ (e : ℕ × FaultPlan). DoNumbersRise (set entries c.in-Ok.place (e.0, c.strike.new.self))) (sym (read-is c.args.number entries c.in-Ok.place found.0 c.index_mut.result.now is c.index_mut.ensures.value))
    (changed-order c.args.number entries c.in-Ok.place found.0 c.strike.new.self c.self.invariant is)

pub returns-in-Ok-clause-class : goal.returns-in-Ok-clause-class
returns-in-Ok-clause-class c =
    let entries : Entries = c.self.inside.table.items in
    let found = c.in-Ok.ensures in
    let is = place-of (goal.at.returns-in-Ok-clause-class c).In-Ok in
    c.strike.ensures.class ∙ ap (λ (e : ℕ × FaultPlan). live e.1) (read-is c.args.number entries c.in-Ok.place found.0 c.index_mut.result.now is c.index_mut.ensures.value)
    ∙ live-where c.args.number entries c.args.self.now (Some found.0) c.self.view_is (found-at c.args.number entries c.in-Ok.place found.0 c.self.invariant is)

pub returns-in-Ok-clause-plans : goal.returns-in-Ok-clause-plans
returns-in-Ok-clause-plans c =
    let entries : Entries = c.self.inside.table.items in
    let number = c.args.number in
    let next : FaultPlan = c.strike.new.self in
    let found = c.in-Ok.ensures in
    let is = place-of (goal.at.returns-in-Ok-clause-plans c).In-Ok in
    let read = read-is number entries c.in-Ok.place found.0 c.index_mut.result.now is c.index_mut.ensures.value in
    ap (λ (e : ℕ × FaultPlan). plans_of (set entries c.in-Ok.place (e.0, next))) read
    ∙ struck entries (set entries c.in-Ok.place (number, next)) number found.0 next (found-at number entries c.in-Ok.place found.0 c.self.invariant is)
    (c.strike.ensures.plan ∙ ap (λ (e : ℕ × FaultPlan). used e.1) read) (changed-at number entries c.in-Ok.place found.0 next c.self.invariant is)
    ∙ ap (λ (es : Entries). used_at (plans_of es) number) c.self.view_is

pub returns-in-Err-clause-class : goal.returns-in-Err-clause-class
returns-in-Err-clause-class c = live-where c.args.number c.self.inside.table.items c.args.self.now None c.self.view_is (none-of (goal.at.returns-in-Err-clause-class c).In-Err)

pub returns-in-Err-clause-plans : goal.returns-in-Err-clause-plans
returns-in-Err-clause-plans c =
    idle c.self.inside.table.items c.args.number (none-of (goal.at.returns-in-Err-clause-plans c).In-Err) ∙ ap (λ (es : Entries). used_at (plans_of es) c.args.number) c.self.view_is
