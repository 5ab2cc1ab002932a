use Rattle.std.proofs.Common.{refl, ◌≡◌, ◌^◌, ◌≤◌, ℕ, Bool, true, false, List, length, get_or, Some, None, sym, ap, ◌∙◌, arith}
use Rattle.std.specs.Char.{digit_value}
use Rattle.std.specs.Str.{all_ascii_digits}
use Rattle.std.specs.Str.Parse.{digits_value}
use Rattle.std.proofs.lemmas.Bool.{and_from, and_right, cond-false, cond-true, cond_above, cond_below, le-leb}
use Rattle.std.proofs.lemmas.Bool.Decides.{nat_tests}
use Rattle.std.proofs.lemmas.Int.Digits.{digits_value_more}
use Rattle.std.proofs.lemmas.List.{take_all}
use Rattle.jb_rows.specs.Numbers.{in_range, is_numeral, number_of}
use Rattle.jb_rows.proofs.Numerals.{digits-fail, digits-more, past-limit}
use Rattle.jb_rows.proofs.numbers.number_of.Goals as goal

-- a byte that is no digit
not-digits : (ds : List ℕ) → all_ascii_digits ds ≡ false → None ≡ number_of ds
not-digits ds e = sym (cond-false (is_numeral ds) (in_range (digits_value 10 ds)) None (and_right _ _ e))

-- digits of a number that is past the limit
too-large : (ds : List ℕ) → 2 ^ 64 ≤ digits_value 10 ds → None ≡ number_of ds
too-large ds large = by (is_numeral ds) refl
  where
    none : in_range (digits_value 10 ds) ≡ None
    none = sym (cond_above (digits_value 10 ds) (2 ^ 64) (Some (digits_value 10 ds)) None None large refl)

    by : (b : Bool) → is_numeral ds ≡ b → None ≡ number_of ds
    by true e = sym (cond-true (is_numeral ds) (in_range (digits_value 10 ds)) None e ∙ none)
    by false e = sym (cond-false (is_numeral ds) (in_range (digits_value 10 ds)) None e)

pub returns-then-not-is_ascii_digit : goal.returns-then-not-is_ascii_digit
returns-then-not-is_ascii_digit c =
    not-digits c.args.digits.now (digits-fail c.args.digits.now c.loop-digit.digit-index c.loop-digit-test.true (sym c.if-not-is_ascii_digit.ensures.value))

pub returns-in_err-checked_mul : goal.returns-in_err-checked_mul
returns-in_err-checked_mul c =
    c.from_residual.ensures
    ∙ too-large c.args.digits.now (past-limit _ _ c.loop-digit-test.true (omega (arith, c.in_err-checked_mul.ensures, c.loop-digit.invariant.value)))

pub returns-in_err-number : goal.returns-in_err-number
returns-in_err-number c =
    let digit : digit_value (get_or c.args.digits.now c.loop-digit.digit-index 0) ≡ c.from.result = grind (arith, nat_tests) in
    c.from_residual-in_err-number.ensures
    ∙ too-large c.args.digits.now (past-limit _ _ c.loop-digit-test.true (omega (arith, c.in_err-number.ensures, c.in_ok-checked_mul.ensures.1, c.loop-digit.invariant.value)))

pub loop-digit-preserved : goal.loop-digit-preserved
loop-digit-preserved c =
    let digit : digit_value (get_or c.args.digits.now c.loop-digit.digit-index 0) ≡ c.from.result = grind (arith, nat_tests) in
    record {
      digits = digits-more _ _ c.loop-digit-test.true c.loop-digit.invariant.digits (sym c.if-not-is_ascii_digit.ensures.value);
      value = omega (arith, digits_value_more 10 c.args.digits.now _ c.loop-digit-test.true, c.in_ok-number.ensures.1, c.in_ok-checked_mul.ensures.1, c.loop-digit.invariant.value);
      below = omega (arith, c.in_ok-number.ensures.0, c.in_ok-number.ensures.1);
    }

pub returns : goal.returns
returns c =
    let ds = c.args.digits.now in
    let all = take_all c.loop-digit.digit-index ds c.loop-digit-test.false in
    let value : c.loop-digit.number ≡ digits_value 10 ds = c.loop-digit.invariant.value ∙ ap (digits_value 10) all in
    let digits : all_ascii_digits ds ≡ true = sym (ap all_ascii_digits all) ∙ c.loop-digit.invariant.digits in
    let some : 1 ≤ length ds = grind (arith, nat_tests) in
    let few : length ds ≤ 20 = grind (arith, nat_tests) in
    let numeral : is_numeral ds ≡ true = and_from _ _ (and_from _ _ (le-leb 1 (length ds) some) (le-leb (length ds) 20 few)) digits in
    ap Some value
    ∙ sym (cond-true (is_numeral ds) (in_range (digits_value 10 ds)) None numeral ∙ sym (cond_below (digits_value 10 ds) (2 ^ 64) (Some (digits_value 10 ds)) None (omega arith)))
