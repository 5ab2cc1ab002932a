-- Amounts of cents, each with a name: what an item costs, and what a customer pays.
use Rattle.std.specs.Prelude.{ℕ, List, [], ◌∷◌, Option, Some, None, bytes_eq, if◌then◌else◌, option_map}
use Rattle.std.specs.List.{filter_map}
use Rattle.jb_rows.specs.Author.{Fields, field_at, number_of}

abbrev pub Amount : Type 0
Amount = List ℕ × ℕ

-- ---- A RECORD NAME,CENTS

abbrev pub amount_by : (name cents : Option (List ℕ)) → Option Amount
amount_by None cents = None
amount_by (Some name) None = None
amount_by (Some name) (Some cents) = option_map (λ number. (name, number)) (number_of cents)

-- the amount of a record whose first two fields are a name and a number below 2^64
abbrev pub amount_of : Fields → Option Amount
amount_of row = amount_by (field_at row 0) (field_at row 1)

-- what such records say, in order
abbrev pub amounts_in : (rows : List Fields) → List Amount
amounts_in rows = filter_map amount_of rows

-- ---- AMOUNTS BY NAME

-- the amount of a name, if it has one
abbrev pub amount_at : (amounts : List Amount) → (name : List ℕ) → Option ℕ
amount_at [] name = None
amount_at (amount ∷ amounts) name = if bytes_eq name amount.0 then Some amount.1 else amount_at amounts name

-- the amounts, with this one for the name: in its place, or after the others
abbrev pub with_amount : (amounts : List Amount) → (name : List ℕ) → (cents : ℕ) → List Amount
with_amount [] name cents = (name, cents) ∷ []
with_amount (amount ∷ amounts) name cents = if bytes_eq name amount.0 then (amount.0, cents) ∷ amounts else amount ∷ with_amount amounts name cents
