-- A customer's usage NAME,UNITS and the bill for it NAME,CENTS, each a packed record.
use Rattle.std.specs.Prelude.{ℕ, List, [], ◌∷◌, Option, Some, None, decimal, option_and_then, option_map}
use Rattle.jb_rows.specs.Author.{ClassId, Fields, class_of, field_at, number_of, product_of, sum_of}
use Rattle.jb_rows.specs.Fields.{fields_in, packed}
use Rattle.bills.specs.declared.bill.Tariff.{Tariff}

-- WHAT SO MANY UNITS COST, in cents, if it is below 2^64
abbrev pub cost_of : Tariff → (units : ℕ) → Option ℕ
cost_of tariff units = option_and_then (λ used. sum_of tariff.standing used) (product_of tariff.per_unit units)

-- the name and the cost of a record that has a name and a number of units
abbrev pub cost_by : Tariff → (name units : Option (List ℕ)) → Option (List ℕ × ℕ)
cost_by tariff None units = None
cost_by tariff (Some name) None = None
cost_by tariff (Some name) (Some units) = option_map (λ cents. (name, cents)) (option_and_then (cost_of tariff) (number_of units))

abbrev pub named_cost : Tariff → (usage : Fields) → Option (List ℕ × ℕ)
named_cost tariff usage = cost_by tariff (field_at usage 0) (field_at usage 1)

abbrev pub bill_with : List ℕ × ℕ → List ℕ
bill_with named = packed (named.0 ∷ decimal named.1 ∷ [])

-- THE BILL FOR THE USAGE IN A PACKED RECORD, packed, if it has one
unfoldable pub bill_of : Tariff → (bytes : List ℕ) → Option (List ℕ)
bill_of tariff bytes = option_map bill_with (named_cost tariff (fields_in bytes))

-- the class of the fault of a record that has no bill
abbrev pub unbilled_class : ClassId
unbilled_class = class_of 0

-- a record that has no bill can't be read
abbrev pub unless_billed : (bill : Option (List ℕ)) → Option ClassId
unless_billed None = Some unbilled_class
unless_billed (Some bill) = None

abbrev pub refusal_of : Tariff → (bytes : List ℕ) → Option ClassId
refusal_of tariff bytes = unless_billed (bill_of tariff bytes)
