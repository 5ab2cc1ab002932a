-- A sale {"customer":"Ada","item":"pen","count":3}, and what it costs by a list of prices: CUSTOMER,CENTS.
use Rattle.std.specs.Prelude.{ℕ, List, [], ◌∷◌, Option, Some, None, codes, decimal, option_and_then, option_map}
use Rattle.std.specs.List.{filter_map}
use Rattle.serde_json.specs.Data.{Data}
use Rattle.serde_json.specs.Find.{as_number, as_str, as_u64, get}
use Rattle.jb_job.specs.Reading.{tree_of}
use Rattle.jb_rows.specs.Author.{Answer, ClassId, Fields, Given, Refused, class_of, field_at, product_of}
use Rattle.sales.specs.Amounts.{Amount, amount_at}

-- ---- A SALE IN JSON

-- the customer, the item, and how many of it
abbrev pub Sale : Type 0
Sale = List ℕ × List ℕ × ℕ

abbrev pub sale_by : (customer item : Option (List ℕ)) → (count : Option ℕ) → Option Sale
sale_by (Some customer) (Some item) (Some count) = Some (customer, item, count)
sale_by _ _ _ = None

abbrev pub text_at : (key : List ℕ) → Data → Option (List ℕ)
text_at key value = option_and_then as_str (get key value)

abbrev pub count_at : (key : List ℕ) → Data → Option ℕ
count_at key value = option_and_then as_u64 (option_and_then as_number (get key value))

-- the sale that a JSON value is, if it is one. It may have other members.
abbrev pub sale_in : Data → Option Sale
sale_in value = sale_by (text_at (codes "customer") value) (text_at (codes "item") value) (count_at (codes "count") value)

-- a line without a byte 0, which is a record of one field
abbrev pub line_by : (first second : Option (List ℕ)) → Option (List ℕ)
line_by first None = first
line_by first (Some field) = None

-- THE SALE IN A LINE of JSON Lines (jsonlines.org), by the kit's definition of the value that a text has
abbrev pub sale_of : (line : Fields) → Option Sale
sale_of line = option_and_then sale_in (option_and_then tree_of (line_by (field_at line 0) (field_at line 1)))

-- ---- WHAT IT COSTS

abbrev pub no_sale_class : ClassId
no_sale_class = class_of 0

abbrev pub no_price_class : ClassId
no_price_class = class_of 1

abbrev pub too_large_class : ClassId
too_large_class = class_of 2

abbrev pub paid_by : (customer : List ℕ) → (cents : Option ℕ) → Answer
paid_by customer None = Refused too_large_class
paid_by customer (Some cents) = Given (customer ∷ decimal cents ∷ [])

abbrev pub priced_at : Sale → (price : Option ℕ) → Answer
priced_at sale None = Refused no_price_class
priced_at sale (Some price) = paid_by sale.0 (product_of sale.2 price)

abbrev pub priced : (prices : List Amount) → Option Sale → Answer
priced prices None = Refused no_sale_class
priced prices (Some sale) = priced_at sale (amount_at prices sale.1)

-- WHAT IS ANSWERED FOR A LINE: the customer, and the count times the item's price
abbrev pub answer_by : (prices : List Amount) → (line : Fields) → Answer
answer_by prices line = priced prices (sale_of line)

-- ---- WHAT IS PAID IN ALL

abbrev pub payment_at : Sale → (price : Option ℕ) → Option Amount
payment_at sale None = None
payment_at sale (Some price) = option_map (λ cents. (sale.0, cents)) (product_of sale.2 price)

abbrev pub payment_for : (prices : List Amount) → Option Sale → Option Amount
payment_for prices None = None
payment_for prices (Some sale) = payment_at sale (amount_at prices sale.1)

-- WHO PAYS HOW MUCH FOR EACH SALE in these lines, in order
abbrev pub payments_in : (prices : List Amount) → (lines : List Fields) → List Amount
payments_in prices lines = filter_map (λ line. payment_for prices (sale_of line)) lines
