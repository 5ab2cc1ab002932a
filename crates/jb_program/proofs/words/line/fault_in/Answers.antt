use Rattle.std.proofs.Common.{◌≡◌, ◌+◌, arith, inl, inr, length, refl, rules, subst, take}
use Rattle.std.proofs.lemmas.List.{length-map}
use Rattle.jb_program.specs.CommandLine.{CanBeCompleted, CannotGoOn}
use Rattle.jb_program.proofs.CommandLines.{GoOnUpTo, goes-on-more, stuck-up-to, texts, told-wrong}
use Rattle.jb_program.proofs.words.line.fault_in.Goals as goal

pub returns-then-not-branch-clause-wrong : goal.returns-then-not-branch-clause-wrong
returns-then-not-branch-clause-wrong c =
    let words = c.args.words.now in
    let place = c.loop-place.place in
    let stuck : CannotGoOn (texts (take (place + 1) words)) = c.in_ok-can_go_on.ensures.no (search rules) in
    told-wrong (texts words) place c.in_ok-told_of.field-0 c.requires c.in_ok-told_of.ensures c.loop-place.invariant (inl (stuck-up-to words (take (place + 1) words) (place + 1) refl stuck))

pub loop-place-preserved : goal.loop-place-preserved
loop-place-preserved c =
    let words = c.args.words.now in
    let front = take (c.loop-place.place + 1) words in
    let can : CanBeCompleted (texts front) = c.in_ok-can_go_on.ensures.yes (search rules) in
    goes-on-more words front c.loop-place.place refl can c.loop-place.invariant

pub returns-clause-wrong : goal.returns-clause-wrong
returns-clause-wrong c =
    let words = c.args.words.now in
    let others = c.in-Some.others.now in
    let end : c.loop-place.place ≡ length others = omega (arith, c.loop-place-test.false, c.loop-place.auto.place-end) in
    let last : length others + 1 ≡ length (texts words) = omega (arith, c.in-Some.ensures.cases.1, length-map words (λ w. w.now)) in
    told-wrong (texts words) (length others) c.in_ok-told_of-2.field-0 c.requires c.in_ok-told_of-2.ensures (subst (GoOnUpTo (texts words)) end c.loop-place.invariant) (inr last)
