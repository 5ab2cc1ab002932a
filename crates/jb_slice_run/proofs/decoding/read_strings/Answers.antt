use Rattle.std.proofs.Common.{◌≡◌, ◌∙◌, inr, refl, subst, sym, arith}
use Rattle.jb_slice_run.{specs.Coding.{AreStringsRead, IsShort, coded_string}, proofs.Codings.{another, string_parted}}
use Rattle.jb_slice_run.proofs.decoding.read_strings.Goals as goal

pub returns-in_default-clause-why : goal.returns-in_default-clause-why
returns-in_default-clause-why c =
    let so = c.loop.invariant in
    inr (
      refl,
      λ strings later codable number is. another coded_string (λ s. IsShort s) string_parted c.loop.list strings c.loop.rest.now later so.fit codable.short
          (omega (arith, so.number, c.loop-test.true, number)) (sym so.left ∙ is) c.in_default.ensures,
    )

pub returns-clause-read : goal.returns-clause-read
returns-clause-read c =
    let ended : c.loop.counter ≡ c.args.count = omega (arith, c.loop-test.false, c.loop.auto.counter-end) in
    subst (λ n. AreStringsRead c.loop.list c.args.bytes.now c.loop.rest.now n) ended c.loop.invariant
