-- Digits read one by one.
use Rattle.std.proofs.Common.{◌≡◌, ◌+◌, ◌*◌, ◌^◌, ◌<◌, ◌≤◌, ℕ, zero, suc, List, [], ◌∷◌, true, false, arith, length, get_or, take, refl}
use Rattle.std.specs.Char.{digit_value, is_ascii_digit}
use Rattle.std.specs.Str.{all_ascii_digits}
use Rattle.std.specs.Str.Parse.{digits_value}
use Rattle.std.proofs.lemmas.Bool.{and_from, and_left, and_parts, and_right}
use Rattle.std.proofs.lemmas.Int.Digits.{digits_value_more}
use Rattle.std.proofs.lemmas.Str.Parse.{digits_value-take-le}

-- one digit more
pub digits-more : (ds : List ℕ) (i : ℕ) → i < length ds → all_ascii_digits (take i ds) ≡ true → is_ascii_digit (get_or ds i 0) ≡ true → all_ascii_digits (take (i + 1) ds) ≡ true
digits-more [] i inside before here = absurd (omega arith)
digits-more (d ∷ ds) zero inside before here = and_from (is_ascii_digit d) true here refl
digits-more (d ∷ ds) (suc i) inside before here =
    let step : suc i + 1 ≡ suc (i + 1) = omega arith in
    let parts = and_parts (is_ascii_digit d) (all_ascii_digits (take i ds)) before in
    rw step (and_from (is_ascii_digit d) (all_ascii_digits (take (i + 1) ds)) parts.0 (digits-more ds i (omega arith) parts.1 here))

-- a byte that is none
pub digits-fail : (ds : List ℕ) (i : ℕ) → i < length ds → is_ascii_digit (get_or ds i 0) ≡ false → all_ascii_digits ds ≡ false
digits-fail [] i inside fails = absurd (omega arith)
digits-fail (d ∷ ds) zero inside fails = and_left (is_ascii_digit d) (all_ascii_digits ds) fails
digits-fail (d ∷ ds) (suc i) inside fails = and_right (is_ascii_digit d) (all_ascii_digits ds) (digits-fail ds i (omega arith) fails)

-- where the first digits are past the limit, so are all
pub past-limit : (ds : List ℕ) (i : ℕ) → i < length ds → 2 ^ 64 ≤ digits_value 10 (take i ds) * 10 + digit_value (get_or ds i 0) → 2 ^ 64 ≤ digits_value 10 ds
past-limit ds i inside large = omega (arith, digits_value_more 10 ds i inside, digits_value-take-le 10 ds (i + 1) (omega arith))
