-- A line in capitals.
use Rattle.std.specs.Prelude.{ℕ, List, [], ◌∷◌, Option, Some, None, map}
use Rattle.std.specs.Char.{to_ascii_uppercase}
use Rattle.jb_rows.specs.Author.{Answer, ClassId, Fields, Given, Refused, class_of, field_at}

-- the class of the fault of a blank line
abbrev pub blank_class : ClassId
blank_class = class_of 0

abbrev pub capitals_of : Option (List ℕ) → Answer
capitals_of None = Refused blank_class
capitals_of (Some []) = Refused blank_class
capitals_of (Some (byte ∷ line)) = Given (map to_ascii_uppercase (byte ∷ line) ∷ [])

-- the one field of a record in capitals; a blank one is refused
abbrev pub capitals : Fields → Answer
capitals line = capitals_of (field_at line 0)
