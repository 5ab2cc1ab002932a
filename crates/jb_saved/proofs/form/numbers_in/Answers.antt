use Rattle.std.proofs.Common.{◌<◌, [], ◌∷◌, ◌++◌, sym, ap, ◌∙◌, arith}
use Rattle.std.specs.Prelude.{option_map}
use Rattle.jb_saved.specs.inside.Forms.{padded}
use Rattle.jb_saved.proofs.Numbers.{more-read, none-read, more-filled, one-longer}
use Rattle.jb_saved.proofs.form.numbers_in.Goals as goal

pub returns-in_err-numbers : goal.returns-in_err-numbers
returns-in_err-numbers c =
    let members = c.args.members.now in
    let member = c.index-members-place.result in
    let none = none-read members c.loop-place.place member c.loop-place-test.true c.index-members-place.is (sym c.as_u64.ensures ∙ c.in_err-numbers.was) in
    c.from_residual.ensures ∙ sym (ap (option_map padded) none)

pub loop-place-preserved : goal.loop-place-preserved
loop-place-preserved c =
    let members = c.args.members.now in
    let place = c.loop-place.place in
    let member = c.index-members-place.result in
    let number = c.in_ok-numbers.field-0 in
    let known = c.loop-place.invariant in
    let ns = known.0 in
    let within : place < 15 = omega (arith, c.loop-place-test.true, c.requires) in (
      ns ++ number ∷ [],
      one-longer ns place number known.1,
      more-filled ns c.loop-place.numbers place number known.1 within known.2,
      more-read members place member ns number c.loop-place-test.true c.index-members-place.is known.3 (sym c.as_u64.ensures ∙ c.in_ok-numbers.was),
    )
