-- What the prefix processor answers (own choice).
use Rattle.std.specs.Prelude.{ℕ, nat_eq, if◌then◌else◌, Bool, false, ◌++◌, List, Option, Some, None}
use Rattle.std.specs.List.{starts_with}

-- whether an item begins with the drop text, if there is one
abbrev pub begins_with : Option (List ℕ) → List ℕ → Bool
begins_with None item = false
begins_with (Some text) item = starts_with nat_eq item text

-- the prefix before the item, or None if the item begins with the drop text
abbrev pub prefixed : (prefix : List ℕ) → (dropped : Option (List ℕ)) → List ℕ → Option (List ℕ)
prefixed prefix dropped item = if begins_with dropped item then None else Some (prefix ++ item)
