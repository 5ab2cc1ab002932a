-- What is done to each record of a job over letters, by its first field.
use Rattle.std.specs.Prelude.{ℕ, List, [], ◌∷◌, Option, Some, None}
use Rattle.jb_rows.specs.Author.{Answer, ClassId, Given, Refused}

abbrev pub letter_by : (refused : ClassId) → Option (List ℕ) → Answer
letter_by refused None = Refused refused
letter_by refused (Some field) = Given (field ∷ [])
