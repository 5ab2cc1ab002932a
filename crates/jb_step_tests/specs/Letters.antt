-- What is done to each record of a step over letters, by its first field.
use Rattle.std.specs.Prelude.{ℕ, ◌==◌, List, [], ◌∷◌, Option, Some, None, if◌then◌else◌, length}
use Rattle.jb_rows.specs.Author.{Answer, ClassId, Given, Refused}

abbrev pub letter_by : (refused : ClassId) → Option (List ℕ) → Answer
letter_by refused None = Refused refused
letter_by refused (Some field) = Given (field ∷ [])

abbrev pub late_by : (class : ClassId) → Option (List ℕ) → List ClassId
late_by class None = []
late_by class (Some field) = if length field == 2 then class ∷ [] else []
