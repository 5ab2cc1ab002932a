-- A parcel NAME,GRAMS and its price NAME,CENTS.
use Rattle.std.specs.Prelude.{ℕ, List, [], ◌∷◌, Option, Some, None, decimal, option_and_then, option_map}
use Rattle.jb_rows.specs.Author.{Answer, ClassId, Fields, Given, Refused, class_of, field_at, number_of, product_of, sum_of}

-- THE POSTAGE, in cents, of so many grams: 250, and 3 for each of them, if it is below 2^64
abbrev pub postage_of : (grams : ℕ) → Option ℕ
postage_of grams = option_and_then (λ weighed. sum_of 250 weighed) (product_of 3 grams)

-- the name and the postage of a record that has a name and a number of grams
abbrev pub price_of : (name grams : Option (List ℕ)) → Option (List ℕ × ℕ)
price_of None grams = None
price_of (Some name) None = None
price_of (Some name) (Some grams) = option_map (λ cents. (name, cents)) (option_and_then postage_of (number_of grams))

abbrev pub named_price : (parcel : Fields) → Option (List ℕ × ℕ)
named_price parcel = price_of (field_at parcel 0) (field_at parcel 1)

-- a parcel without a price is refused
abbrev pub unpriced_class : ClassId
unpriced_class = class_of 0

abbrev pub priced_with : Option (List ℕ × ℕ) → Answer
priced_with None = Refused unpriced_class
priced_with (Some named) = Given (named.0 ∷ decimal named.1 ∷ [])

-- WHAT IS ANSWERED FOR A PARCEL
abbrev pub pricing : (parcel : Fields) → Answer
pricing parcel = priced_with (named_price parcel)
