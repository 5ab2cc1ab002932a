use Rattle.std.proofs.Common.{◌≡◌, ◌≢◌, ◌<◌, ◌+◌, ◌-◌, ◌*◌, ℕ, Bool, true, false, [], ◌∷◌, Option, None, length, drop, get_or, ap, arith, refl, sym, ◌∙◌}
use Rattle.std.specs.Prelude.{◌==◌, if◌then◌else◌}
use Rattle.std.specs.Char.{is_ascii_digit}
use Rattle.std.proofs.lemmas.List.{at_drop_more}
use Rattle.std.proofs.lemmas.Bool.Decides.{nat_tests}
use Rattle.clap.specs.Words.{Text}
use Rattle.jb_base.specs.Limits.{max_rounds}
use Rattle.jb_program.specs.CommandLine.{rounds_from, rounds_of_word}
use Rattle.jb_program.proofs.words.line.rounds_of.Goals as goal

-- a text that isn't empty is digits from its first byte on
filled : (text : Text) → length text ≢ 0 → rounds_of_word text ≡ rounds_from 0 text
filled [] some = absurd (some refl)
filled (digit ∷ digits) some = refl

not-empty : (empty : Bool) (n : ℕ) → empty ≡ (n == 0) → empty ≡ false → n ≢ 0
not-empty empty n is not = grind (arith, nat_tests)

-- one digit more
next : (text : Text) (i n : ℕ) → i < length text → rounds_from n (drop i text) ≡ (if is_ascii_digit (get_or text i 0) then rounds_from (n * 10 + (get_or text i 0 - 48)) (drop (i + 1) text) else None)
next text i n within = at_drop_more (rounds_from n) text i 0 within

taken : (text : Text) (i n : ℕ) (digit : Bool) → i < length text → digit ≡ is_ascii_digit (get_or text i 0)
    → rounds_from n (drop i text) ≡ (if digit then rounds_from (n * 10 + (get_or text i 0 - 48)) (drop (i + 1) text) else None)
taken text i n digit within is = next text i n within ∙ ap (λ b. if b then rounds_from (n * 10 + (get_or text i 0 - 48)) (drop (i + 1) text) else None) (sym is)

none-either : (b : Bool) (o : Option ℕ) → o ≡ None → (if b then o else None) ≡ None
none-either true o none = none
none-either false o none = refl

-- a number past the most stays past it
past : (n : ℕ) (text : Text) → max_rounds < n → rounds_from n text ≡ None
past n [] more = grind (arith, nat_tests)
past n (digit ∷ digits) more = none-either (is_ascii_digit digit) (rounds_from (n * 10 + (digit - 48)) digits) (past (n * 10 + (digit - 48)) digits (omega arith))

pub returns-then-not-is_ascii_digit : goal.returns-then-not-is_ascii_digit
returns-then-not-is_ascii_digit c =
    let digits = c.as_bytes-digits.result.now in
    let i = c.loop-digit.digit-index in
    let n = c.loop-digit.value in
    let whole = ap rounds_of_word (sym c.as_bytes-digits.ensures.value) ∙ filled digits (not-empty _ _ c.is_empty.ensures c.if-is_empty.false) ∙ c.loop-digit.invariant in
    let none : rounds_from n (drop i digits) ≡ None = taken digits i n false c.loop-digit-test.true (sym c.if-not-is_ascii_digit.true ∙ c.is_ascii_digit.ensures.value) in
    sym (whole ∙ none)

pub returns-then-value-gt-MAX_ROUNDS : goal.returns-then-value-gt-MAX_ROUNDS
returns-then-value-gt-MAX_ROUNDS c =
    let digits = c.as_bytes-digits.result.now in
    let whole = ap rounds_of_word (sym c.as_bytes-digits.ensures.value) ∙ filled digits (not-empty _ _ c.is_empty.ensures c.if-is_empty.false) ∙ c.loop-digit.invariant in
    sym (whole ∙ past c.loop-digit.value (drop c.loop-digit.digit-index digits) c.if-value-gt-MAX_ROUNDS.true)

pub loop-digit-preserved : goal.loop-digit-preserved
loop-digit-preserved c =
    let digits = c.as_bytes-digits.result.now in
    c.loop-digit.invariant ∙ taken digits c.loop-digit.digit-index c.loop-digit.value true c.loop-digit-test.true (sym c.if-not-is_ascii_digit.false ∙ c.is_ascii_digit.ensures.value)
