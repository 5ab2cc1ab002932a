-- The amounts of the results of a job are what is paid for each sale.
use Rattle.std.proofs.Common.{◌≡◌, ℕ, ◌*◌, ◌^◌, ◌<◌, true, false, cond, List, [], ◌∷◌, Option, Some, None, length, refl, ap, ◌∙◌, arith}
use Rattle.std.specs.Prelude.{decimal, nat_le, nat_lt, option_and_then, option_map}
use Rattle.std.specs.List.{cons_option, filter_map}
use Rattle.std.specs.Str.{all_ascii_digits}
use Rattle.std.specs.Str.Parse.{digits_value}
use Rattle.std.proofs.lemmas.Bool.{le-leb, lt-ltb, ltb-true}
use Rattle.std.proofs.lemmas.Fmt.{decimal_nonempty, digits_decimal, digits_value-decimal, length-decimal-le}
use Rattle.std.proofs.lemmas.Str.Parse.{IsNumeralModel, numerals_by_value, tells_all_ascii_digits}
use Rattle.csv.specs.Records.{field_at}
use Rattle.jb_rows.specs.Answers.{all_results, result_of}
use Rattle.jb_rows.specs.Fields.{Fields}
use Rattle.jb_rows.specs.Numbers.{in_range, number_of}
use Rattle.sales.specs.Amounts.{Amount, amount_at, amount_of, amounts_in}
use Rattle.sales.specs.Sales.{Sale, answer_by, paid_by, payment_for, payments_in, priced, sale_of}

own : IsNumeralModel (λ ds. all_ascii_digits ds ≡ true) (digits_value 10)
own = numerals_by_value (λ ds. all_ascii_digits ds ≡ true) tells_all_ascii_digits

-- a number that is written in decimal is read again
number_of-decimal : (n : ℕ) → n < 2 ^ 64 → number_of (decimal n) ≡ Some n
number_of-decimal n below =
    let some : nat_le 1 (length (decimal n)) ≡ true = le-leb 1 (length (decimal n)) (decimal_nonempty n below) in
    let few : nat_le (length (decimal n)) 20 ≡ true = le-leb (length (decimal n)) 20 (length-decimal-le 20 n (omega arith) (omega arith) below) in
    let least : nat_lt n (2 ^ 64) ≡ true = lt-ltb n (2 ^ 64) below in
    rw (some, few, digits_decimal own n below, digits_value-decimal own n below, least) refl

-- the amount of a result is what was paid
paid-amount : (customer : List ℕ) (product : ℕ) → option_and_then amount_of (result_of (paid_by customer (in_range product))) ≡ option_map (λ cents. (customer, cents)) (in_range product)
unfolding field_at
paid-amount customer product =
    elim (nat_lt product (2 ^ 64)) as (λ t. nat_lt product (2 ^ 64) ≡ t
    → option_and_then amount_of (result_of (paid_by customer (cond t (Some product) None))) ≡ option_map (λ cents. (customer, cents)) (cond t (Some product) None)) [
      | true ↦ λ below. rw (number_of-decimal product (ltb-true product (2 ^ 64) below)) refl
      | false ↦ λ above. refl
    ] refl

amount-of-answer : (prices : List Amount) (sale : Option Sale) → option_and_then amount_of (result_of (priced prices sale)) ≡ payment_for prices sale
amount-of-answer prices None = refl
amount-of-answer prices (Some sale) = by (amount_at prices sale.1) refl
  where
    by : (price : Option ℕ) → amount_at prices sale.1 ≡ price → option_and_then amount_of (result_of (priced prices (Some sale))) ≡ payment_for prices (Some sale)
    by None none = rw none refl
    by (Some price) some = rw some (paid-amount sale.0 (sale.2 * price))

filtered : (result : Option Fields) (later : List Fields) → filter_map amount_of (cons_option result later) ≡ cons_option (option_and_then amount_of result) (filter_map amount_of later)
filtered None later = refl
filtered (Some result) later = refl

pub payments : (prices : List Amount) (lines : List Fields) → amounts_in (all_results (answer_by prices) lines) ≡ payments_in prices lines
payments prices [] = refl
payments prices (line ∷ lines) =
    filtered (result_of (answer_by prices line)) (all_results (answer_by prices) lines)
    ∙ ap (λ (first : Option Amount). cons_option first (amounts_in (all_results (answer_by prices) lines))) (amount-of-answer prices (sale_of line))
    ∙ ap (cons_option (payment_for prices (sale_of line))) (payments prices lines)
