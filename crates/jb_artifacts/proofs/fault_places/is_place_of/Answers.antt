use Rattle.std.proofs.Common.{◌≤◌, ◌-◌, get_or, arith}
use Rattle.std.proofs.lemmas.Bool.Decides.{nat_tests}
use Rattle.jb_artifacts.proofs.FaultPlaces.{number-at, place-between}
use Rattle.jb_artifacts.proofs.fault_places.is_place_of.Goals as goal
use Rattle.jb_artifacts.proofs.fault_places.is_place_of.Goals.{else-place-gt0-via-then-place-gt0+else-entries-place, else-place-gt0-via-else-place-gt0}

pub returns-then-place-entries-2 : goal.returns-then-place-entries-2
returns-then-place-entries-2 c ended = place-between c.args.number c.args.entries.now c.args.place c.requires (omega arith)
    (λ d some. elim c.else-place-gt0.branch [
      | else-place-gt0-via-then-place-gt0+else-entries-place w ↦
          let low = w.if-entries-place.false in
          omega (arith, number-at c.args.entries.now (c.args.place - 1) w.index-entries-place.result d (omega arith), low)
      | else-place-gt0-via-else-place-gt0 w ↦ let none = w.if-place-gt0.false in omega arith
    ])
    (λ d below. let is = c.if-place-entries-2.true in omega arith)

pub returns-else-place-entries-2 : goal.returns-else-place-entries-2
returns-else-place-entries-2 c fits = place-between c.args.number c.args.entries.now c.args.place c.requires (omega arith)
    (λ d some. elim c.else-place-gt0.branch [
      | else-place-gt0-via-then-place-gt0+else-entries-place w ↦
          let low = w.if-entries-place.false in
          omega (arith, number-at c.args.entries.now (c.args.place - 1) w.index-entries-place.result d (omega arith), low)
      | else-place-gt0-via-else-place-gt0 w ↦ let none = w.if-place-gt0.false in omega arith
    ])
    (λ d below.
    let here : c.args.number ≤ (get_or c.args.entries.now c.args.place c.index-entries-place-else-place-entries-2.result).0 = grind (arith, nat_tests, fits) in
    omega (arith, number-at c.args.entries.now c.args.place c.index-entries-place-else-place-entries-2.result d below, here))
