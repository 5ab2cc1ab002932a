use Rattle.std.proofs.Common.{ℕ, ◌<◌, length, refl, ap, ◌∙◌, Some, arith}
use Rattle.std.proofs.lemmas.Option.{slice_get_read}
use Rattle.jb_artifacts.specs.declared.faults.FaultPlan.{FaultPlan}
use Rattle.jb_artifacts.proofs.FaultPlaces.{gap-at, number-at}
use Rattle.jb_artifacts.proofs.fault_places.search.Goals as goal

pub returns-then-place-entries : goal.returns-then-place-entries
returns-then-place-entries c = gap-at c.args.number c.args.entries.now c.place_of-place.result c.requires c.place_of-place.ensures (λ d below same. let is = c.if-place-entries.true in omega arith)

pub returns-then-entries-place : goal.returns-then-entries-place
returns-then-entries-place c =
    let bound = c.place_of-place.ensures.bound in
    let other = c.if-place-entries.false in
    let below : c.place_of-place.result < length c.args.entries.now = omega arith in
    let same = c.if-entries-place.true in
    (c.index-entries-place.result.1, slice_get_read c.args.entries.now (length c.args.entries.now) c.place_of-place.result c.index-entries-place.result refl below c.index-entries-place.is ∙ ap (λ n. Some (n, c.index-entries-place.result.1)) (ap (λ (e : ℕ × FaultPlan). e.0) c.index-entries-place.is ∙ c.if-entries-place.true))

pub returns-else-entries-place : goal.returns-else-entries-place
returns-else-entries-place c = gap-at c.args.number c.args.entries.now c.place_of-place.result c.requires c.place_of-place.ensures
    (λ d below same. let other = c.if-entries-place.false in other (number-at c.args.entries.now c.place_of-place.result _ d below ∙ same))
