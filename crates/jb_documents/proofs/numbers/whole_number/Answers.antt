use Rattle.std.proofs.Common.{◌≡◌, ℤ, Bool, Float, true, false, cond, Some, None, option_and_then, drop, refl, sym, ap, ◌∙◌}
use Rattle.std.specs.Float.{binary64, float_is_finite}
use Rattle.fast_float.specs.Text.{Parts, scan, nearest}
use Rattle.serde_json.specs.Data.{negative, float}
use Rattle.serde_json.specs.Find.{as_u64}
use Rattle.serde_json.specs.Read.{number_from, number_of, float_of}
use Rattle.jb_documents.proofs.NumberTexts.{below-zero, from-zero}
use Rattle.jb_documents.proofs.numbers.whole_number.Goals as goal

no_float : (b : Bool) (x : Float) → option_and_then as_u64 (cond b (Some (float x)) None) ≡ None
no_float true x = refl
no_float false x = refl

either : (b : Bool) (z : ℤ) (p : Parts) → option_and_then as_u64 (cond b (Some (negative z)) (float_of true p)) ≡ None
either true z p = refl
either false z p = no_float (float_is_finite (nearest binary64 true p)) (nearest binary64 true p)

not_whole : (p : Parts) → option_and_then as_u64 (number_from true p) ≡ None
not_whole p = either _ _ p

pub returns-then-has_minus : goal.returns-then-has_minus
returns-then-has_minus c =
    let s = c.as_bytes-bytes.result.now in
    sym (ap (λ s. option_and_then as_u64 (number_of s)) (sym c.as_bytes-bytes.ensures.value)
    ∙ ap (option_and_then as_u64) (sym (below-zero s (sym c.if-has_minus.ensures.value))) ∙ not_whole (scan (drop 1 s)))

pub returns-else-has_minus : goal.returns-else-has_minus
returns-else-has_minus c =
    let s = c.as_bytes-bytes.result.now in
    c.whole_unsigned.ensures ∙ ap (λ p. option_and_then as_u64 (number_from false p)) c.scan.ensures.parts
    ∙ ap (option_and_then as_u64) (from-zero s (sym c.if-has_minus.ensures.value)) ∙ ap (λ s. option_and_then as_u64 (number_of s)) c.as_bytes-bytes.ensures.value
