use Rattle.std.proofs.{Common.{◌≡◌, ◌++◌, length, sym, ap, ◌∙◌, length-append, arith}, lemmas.List.{length-take-le, take-append-drop}}
use Rattle.jb_slice_run.proofs.Codings.{number_parted, string_bytes}
use Rattle.jb_slice_run.proofs.decoding.read_string.Goals as goal

pub returns-in_err-length : goal.returns-in_err-length
returns-in_err-length c = rw c.from_residual.ensures (λ s rest short e. c.in_err-length.ensures (length s) (s ++ rest) (e ∙ string_bytes s rest))

pub returns-then-rest-length : goal.returns-then-rest-length
returns-then-rest-length c s rest short e =
    let found = c.in_ok-length.ensures in
    let parts = number_parted c.in_ok-length.length (length s) c.in_ok-length.rest.now (s ++ rest) found.1 short (sym found.0 ∙ e ∙ string_bytes s rest) in
    omega (arith, parts.0, ap length parts.1, length-append s rest, c.if-rest-length.true)

pub returns : goal.returns
returns c =
    let found = c.in_ok-length.ensures in
    let n = c.in_ok-length.length in
    let rest = c.in_ok-length.rest.now in
    let string = c.split_at.result.0.now in
    let left = c.split_at.result.1.now in
    let long : length string ≡ n = ap length c.split_at.ensures.front ∙ length-take-le n rest c.if-rest-length.false in
    let parts : rest ≡ string ++ left = rw (c.split_at.ensures.front, c.split_at.ensures.back) (sym (take-append-drop n rest)) in
    let bytes = string_bytes string left in
    (cc found.0, omega (arith, long, found.1))
