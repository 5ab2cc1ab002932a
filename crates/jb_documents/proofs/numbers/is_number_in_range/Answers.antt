use Rattle.std.proofs.Common.{true, false, sym, ap, ◌∙◌, drop, take_all, length-drop, arith}
use Rattle.std.specs.Prelude.{is_some}
use Rattle.fast_float.specs.Text.{scan}
use Rattle.serde_json.specs.Read.{number_from, number_of}
use Rattle.jb_documents.proofs.NumberTexts.{below-zero, from-zero}
use Rattle.jb_documents.proofs.numbers.is_number_in_range.Goals as goal

pub returns-then-has_minus : goal.returns-then-has_minus
returns-then-has_minus c =
    let s = c.as_bytes-bytes.result.now in
    let parts = c.scan.ensures.parts ∙ ap scan (take_all _ (drop 1 s) (omega (arith, length-drop 1 s))) in
    c.fits_negative.ensures ∙ ap (λ p. is_some (number_from true p)) parts ∙ ap is_some (below-zero s (sym c.if-has_minus.ensures.value)) ∙ ap (λ s. is_some (number_of s)) c.as_bytes-bytes.ensures.value

pub returns-else-has_minus : goal.returns-else-has_minus
returns-else-has_minus c =
    let s = c.as_bytes-bytes.result.now in
    c.fits_unsigned.ensures ∙ ap (λ p. is_some (number_from false p)) c.scan-else-has_minus.ensures.parts ∙ ap is_some (from-zero s (sym c.if-has_minus.ensures.value)) ∙ ap (λ s. is_some (number_of s)) c.as_bytes-bytes.ensures.value
