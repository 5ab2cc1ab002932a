-- What the parts of a saved tree are read as.
use Rattle.std.specs.Prelude.{◌≡◌, ℕ, ◌-◌, List, [], ◌∷◌, ◌++◌, length, replicate, false, slice_get, Option, Some, None, option_and_then, Result, Ok, Err}
use Rattle.serde_json.specs.Data.{Data}
use Rattle.serde_json.specs.Find as find
use Rattle.jb_job.specs.Reading.{whole_number}
use Rattle.jb_rules.specs.declared.row.Row.{Row}
use Rattle.jb_rules.specs.declared.row.RowState.{RowState}
use Rattle.jb_rules.specs.Numbers.{row_of_numbers, state_named}
use Rattle.jb_rules.specs.States.{is_running}
use Rattle.jb_saved.specs.declared.error.SavedError.{SavedError}
use Rattle.jb_saved.specs.declared.error.SavedError.TheVariants.{Refused, Memory}
use Rattle.jb_saved.specs.declared.place.SavedPlace.TheVariants.{Shape}
use Rattle.jb_saved.specs.SavedForm.{◌>>=◌}

-- no partition is running
abbrev pub AreStill : List Row → Type 0
AreStill rows = (i : ℕ) (r : Row) → slice_get rows i ≡ Some r → is_running r.state ≡ false

-- what a function returned, seen by view, is what the form holds, and Shape where it holds nothing, unless memory ran out
abbrev pub Finds : {X Y : Type 0} → (X → Y) → Result X SavedError → Option Y → Type 0
Finds view (Ok x) form = form ≡ Some (view x)
Finds view (Err (Refused place)) form = (place ≡ Shape) × (form ≡ None)
Finds view (Err Memory) form = Unit {0}

-- the numbers that the trees are
abbrev pub whole_numbers : List Data → Option (List ℕ)
whole_numbers [] = Some []
whole_numbers (d ∷ ds) = whole_number d >>= λ n. whole_numbers ds >>= λ ns. Some (n ∷ ns)

-- as many numbers as a row has, those that aren't there being 0
abbrev pub padded : List ℕ → List ℕ
padded ns = ns ++ replicate (15 - length ns) 0

-- the state that a tree is the name of
abbrev pub state_in : Data → Option RowState
state_in d = option_and_then state_named (find.as_str d)

-- the row of the numbers that the trees are, and of the state of which the last is the name
abbrev pub row_from : (numbers : List Data) → (state : Data) → Option Row
row_from ds d = whole_numbers ds >>= λ ns. state_in d >>= λ stands. Some (row_of_numbers ns stands)
