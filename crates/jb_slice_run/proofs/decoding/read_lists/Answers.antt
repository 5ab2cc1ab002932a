use Rattle.std.proofs.{Common.{[], ◌≡◌, ◌==◌, length, inr, refl, true≢false, sym, ap, ◌∙◌, arith}, lemmas.List.{append-nil}}
use Rattle.jb_slice_run.{specs.Coding.{IsCodable, coded, coded_list}, proofs.Codings.{all_read, another, list_parted}, proofs.Why.{why_on}}
use Rattle.jb_slice_run.proofs.decoding.read_lists.Goals as goal

pub returns-in_err-rest-clause-why : goal.returns-in_err-rest-clause-why
returns-in_err-rest-clause-why c =
    let so = c.loop.invariant in
    why_on c.from_residual.result c.in_err-rest.field-0.0 c.from_residual.ensures.1
    (λ none others of.
    another coded_list (λ l. IsCodable l) list_parted c.loop.lists.items others c.loop.rest.now [] so.fit of.codable (omega (arith, so.number, c.loop-test.true, of.number))
    (sym so.left ∙ of.coding ∙ sym (append-nil (coded others))) none)
    c.in_err-rest.ensures.why

pub returns-then-not-is_empty-clause-why : goal.returns-then-not-is_empty-clause-why
returns-then-not-is_empty-clause-why c =
    let all : c.loop.counter ≡ c.args.count = omega (arith, c.loop-test.false, c.loop.auto.counter-end) in
    inr (
      refl,
      λ others of.
          let none = (all_read c.loop.lists.items c.args.bytes.now c.loop.rest.now c.loop.counter c.args.count c.loop.invariant all others of).1 in
          true≢false (sym (ap (λ r. length r == 0) none) ∙ sym c.is_empty.ensures ∙ c.if-not-is_empty.true),
    )

pub returns-clause-read : goal.returns-clause-read
returns-clause-read c lists of =
    let all : c.loop.counter ≡ c.args.count = omega (arith, c.loop-test.false, c.loop.auto.counter-end) in
    (all_read c.loop.lists.items c.args.bytes.now c.loop.rest.now c.loop.counter c.args.count c.loop.invariant all lists of).0
