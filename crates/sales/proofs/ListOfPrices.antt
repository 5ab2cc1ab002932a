-- The prices after one record more.
use Rattle.std.proofs.Common.{◌≡◌, ℕ, ◌+◌, ◌<◌, true, false, cond, List, [], ◌∷◌, ◌++◌, map, length, take, Option, None, Some, Result, Ok, Err, refl, sym, ap, subst, ◌∙◌, length-append}
use Rattle.std.specs.Prelude.{bytes_eq, slice_index_or, IfOk, IfSome}
use Rattle.std.specs.List.{AllByRecursion, IsDistinct}
use Rattle.std.proofs.lemmas.List.{take_more}
use Rattle.jb_rows.specs.Fields.{Fields}
use Rattle.jb_rows.specs.Texts.{AreRowsOf}
use Rattle.jb_rows.specs.declared.rows_options.RowsOptions.{RowsOptions}
use Rattle.sales.specs.Amounts.{Amount, amount_at, amount_of, with_amount}
use Rattle.sales.specs.Prices.{ArePrices, ArePricesOf}
use Rattle.sales.proofs.OneMore.{amounts-more, turned}

-- a name without an amount has its own behind the others
module _ (name : List ℕ) (cents : ℕ) where
  new-amount : (amounts : List Amount) → amount_at amounts name ≡ None → with_amount amounts name cents ≡ amounts ++ (name, cents) ∷ []
  new-amount [] none = refl
  new-amount (amount ∷ amounts) none =
      elim (bytes_eq name amount.0) as (λ t. cond t (Some amount.1) (amount_at amounts name) ≡ None
      → cond t ((amount.0, cents) ∷ amounts) (amount ∷ with_amount amounts name cents) ≡ amount ∷ (amounts ++ (name, cents) ∷ [])) [
        | true ↦ λ there. cc
        | false ↦ λ later. ap (λ (those : List Amount). amount ∷ those) (new-amount amounts later)
      ] none

  new-name : (P : List ℕ → Type 0) (amounts : List Amount) → P name → AllByRecursion P (map (λ amount. amount.0) amounts) → AllByRecursion P (map (λ amount. amount.0) (amounts ++ (name, cents) ∷ []))
  new-name P [] new all = (new, tt)
  new-name P (amount ∷ amounts) new all = (all.0, new-name P amounts new all.1)

  still-once : (amounts : List Amount) → amount_at amounts name ≡ None → IsDistinct bytes_eq (map (λ amount. amount.0) amounts) → IsDistinct bytes_eq (map (λ amount. amount.0) (amounts ++ (name, cents) ∷ []))
  unfolding IsDistinct
  still-once [] none once = (tt, tt)
  still-once (amount ∷ amounts) none once =
      elim (bytes_eq name amount.0) as (λ t. bytes_eq name amount.0 ≡ t → cond t (Some amount.1) (amount_at amounts name) ≡ None
      → IsDistinct bytes_eq (map (λ amount. amount.0) ((amount ∷ amounts) ++ (name, cents) ∷ []))) [
        | true ↦ λ equal there. cc
        | false ↦ λ differ later. (new-name (λ (other : List ℕ). bytes_eq amount.0 other ≡ false) amounts (turned amount.0 name ∙ differ) once.0, still-once amounts later once.1)
      ] refl none

pub no-prices : ArePrices [] []
unfolding IsDistinct
no-prices = record { same = refl; whole = refl; once = tt }

pub one-price : (rows : List Fields) (number : ℕ) (row : Fields) (prices after : List Amount) (name : List ℕ) (cents : ℕ) → number < length rows → row ≡ slice_index_or rows number []
    → Some (name, cents) ≡ amount_of row → amount_at prices name ≡ None → after ≡ with_amount prices name cents → ArePrices (take number rows) prices → ArePrices (take (number + 1) rows) after
one-price rows number row prices after name cents below this is none put so_far =
    let front : take (number + 1) rows ≡ take number rows ++ row ∷ [] = take_more rows number [] below ∙ ap (λ (last : Fields). take number rows ++ last ∷ []) (sym this) in
    let new : after ≡ prices ++ (name, cents) ∷ [] = put ∙ new-amount name cents prices none in
    let all : ArePrices (take number rows ++ row ∷ []) (prices ++ (name, cents) ∷ []) = record {
      same = ap (λ (those : List Amount). those ++ (name, cents) ∷ []) so_far.same ∙ sym (amounts-more (take number rows) row (name, cents) (sym is));
      whole = length-append prices ((name, cents) ∷ []) ∙ ap (λ (n : ℕ). n + 1) so_far.whole ∙ sym (length-append (take number rows) (row ∷ []));
      once = still-once name cents prices none so_far.once;
    } in
    subst (ArePrices (take (number + 1) rows)) (sym new) (subst (λ (those : List Fields). ArePrices those (prices ++ (name, cents) ∷ [])) (sym front) all)

-- of a stream's text, where it is known
pub of-text : {E : Type 0} (options : RowsOptions) (text : Option (List ℕ)) (rows : List Fields) (result : Result (List Amount) E) (Given : List ℕ → Type 0)
    → IfSome text Given → ((t : List ℕ) → Given t → AreRowsOf options t rows) → IfOk result (ArePrices rows) → IfOk result (λ prices. IfSome text (λ t. ArePricesOf options t prices))
of-text options None rows (Ok prices) Given given read are = tt
of-text options (Some text) rows (Ok prices) Given given read are = record { rows = rows; read = read text given; are = are }
of-text options text rows (Err why) Given given read are = tt
