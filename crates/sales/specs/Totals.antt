-- The total of each customer.
use Rattle.std.specs.Prelude.{ℕ, ◌≡◌, ⊤, List, [], ◌∷◌, ◌++◌, bytes_eq, decimal, fold, if◌then◌else◌, length, map}
use Rattle.std.specs.List.{IsDistinct, list_any, sum_by}
use Rattle.jb_rows.specs.Fields.{Fields}
use Rattle.sales.specs.Amounts.{Amount, amounts_in}
use Rattle.sales.specs.declared.sums.SumsError.{SumsError}
use Rattle.sales.specs.declared.sums.SumsError.TheVariants as error

-- WHAT A CUSTOMER PAYS: the sum of all amounts of the customer
abbrev pub total_in : (amounts : List Amount) → (customer : List ℕ) → ℕ
total_in amounts customer = sum_by (λ amount. if bytes_eq amount.0 customer then amount.1 else 0) amounts

-- the customers, with this one after them if it is none of them
abbrev pub with_customer : (customers : List (List ℕ)) → (customer : List ℕ) → List (List ℕ)
with_customer [] customer = customer ∷ []
with_customer (first ∷ customers) customer = if bytes_eq customer first then first ∷ customers else first ∷ with_customer customers customer

-- the customers of these amounts, in the order of their first
abbrev pub customers_in : (amounts : List Amount) → List (List ℕ)
customers_in amounts = fold (λ customers amount. with_customer customers amount.0) [] amounts

abbrev pub totals_in : (amounts : List Amount) → List Amount
totals_in amounts = map (λ customer. (customer, total_in amounts customer)) (customers_in amounts)

-- as a record CUSTOMER,TOTAL
abbrev pub record_of : Amount → Fields
record_of amount = amount.0 ∷ decimal amount.1 ∷ []

-- THE TOTALS OF THESE AMOUNTS: one for each customer that has an amount, in the order of their first, and each the sum of all amounts of
-- the customer
pub record AreTotals (amounts : List Amount) (totals : List Fields) : Type 0 where
  pub sums : totals ≡ map record_of (totals_in amounts)
  pub once : IsDistinct bytes_eq (customers_in amounts)
  pub all : (customer : List ℕ) → list_any (bytes_eq customer) (customers_in amounts) ≡ list_any (λ amount. bytes_eq customer amount.0) amounts

-- ---- AS RESULTS ARE ADDED

-- the totals of these results, each of which is an amount
pub record AreTotalsSoFar (results : List Fields) (totals : List Amount) : Type 0 where
  pub whole : length (amounts_in results) ≡ length results
  pub sums : totals ≡ totals_in (amounts_in results)

-- THESE RESULTS WERE ADDED: if the totals before were those of earlier ones, these are of both
abbrev pub HaveAdded : (before after : List Amount) → (results : List Fields) → Type 0
HaveAdded before after results = (earlier : List Fields) → AreTotalsSoFar earlier before → AreTotalsSoFar (earlier ++ results) after

-- if a sum was too large, P
abbrev pub IfTooLarge : SumsError → (P : Type 0) → Type 0
IfTooLarge (error.NoAmount number) P = ⊤
IfTooLarge (error.TooLarge number) P = P
IfTooLarge error.Memory P = ⊤
