-- A time sheet NAME,HOURS,RATE and its pay slip NAME,PAY.
use Rattle.std.specs.Prelude.{ℕ, Bool, false, if◌then◌else◌, List, [], ◌∷◌, Option, Some, None, decimal, nat_lt, option_map}
use Rattle.jb_rows.specs.Author.{Answer, ClassId, Fields, Given, Refused, class_of, field_at, number_of, product_of}

-- ---- pay

-- the pay in cents for so many hours at so many cents, if it is below 2^64
abbrev pub pay_by : (hours rate : Option ℕ) → Option ℕ
pay_by None rate = None
pay_by (Some hours) None = None
pay_by (Some hours) (Some rate) = product_of hours rate

-- the name and the pay of a time sheet that has a name, hours and a rate
abbrev pub named_pay : (name hours rate : Option (List ℕ)) → Option (List ℕ × ℕ)
named_pay None hours rate = None
named_pay (Some name) None rate = None
named_pay (Some name) (Some hours) None = None
named_pay (Some name) (Some hours) (Some rate) = option_map (λ pay. (name, pay)) (pay_by (number_of hours) (number_of rate))

abbrev pub pay_in : (sheet : Fields) → Option (List ℕ × ℕ)
pay_in sheet = named_pay (field_at sheet 0) (field_at sheet 1) (field_at sheet 2)

-- ---- faults

-- one without pay is refused
abbrev pub broken_class : ClassId
broken_class = class_of 0

-- and so is one with more hours than the longest month
abbrev pub overlong_class : ClassId
overlong_class = class_of 1

abbrev pub is_above : (hours : Option ℕ) → Bool
is_above None = false
is_above (Some hours) = nat_lt 744 hours

abbrev pub is_overlong : (hours : Option (List ℕ)) → Bool
is_overlong None = false
is_overlong (Some hours) = is_above (number_of hours)

-- ---- pay slips

abbrev pub slip_with : Option (List ℕ × ℕ) → Answer
slip_with None = Refused broken_class
slip_with (Some named) = Given (named.0 ∷ decimal named.1 ∷ [])

-- THE PAY SLIP OF A TIME SHEET: its name, and its hours times its rate
abbrev pub pay_slip : (sheet : Fields) → Answer
pay_slip sheet = if is_overlong (field_at sheet 1) then Refused overlong_class else slip_with (pay_in sheet)
