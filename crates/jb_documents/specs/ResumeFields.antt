-- What the run before left in its writers (own choice): a list of texts for each partition.
use Rattle.std.specs.Prelude.{ℕ, ◌==◌, nat_le, Bool, List, length, Ok, Err, if◌then◌else◌}
use Rattle.std.specs.List.{list_all, zip}
use Rattle.serde_json.specs.Data.{Data}
use Rattle.serde_json.specs.Find.{as_array, as_str}
use Rattle.jb_job.specs.declared.field.Field.{Field}
use Rattle.jb_job.specs.Reading.{wrong_shape, out_of_range, Read, ◌>>=◌, shaped, each_at}
use Rattle.jb_rules.specs.declared.row.Row.{Row}

-- the texts that a writer holds
abbrev pub WrittenTexts : Type 0
WrittenTexts = List (List ℕ)

-- texts, of any number and length
unfoldable pub texts_at : Field → Data → Read WrittenTexts
texts_at f d = shaped f (as_array d) >>= each_at (λ _ text. shaped f (as_str text))

-- lists of texts
unfoldable pub outputs_at : Field → Data → Read (List WrittenTexts)
outputs_at f d = shaped f (as_array d) >>= each_at (λ _. texts_at f)

-- the writer holds the results that its row committed, and may hold more, which were rolled back
abbrev pub holds : WrittenTexts × Row → Bool
holds (texts, row) = nat_le row.written (length texts)

-- as many writers as rows, and each holds what its row committed
unfoldable pub held_outputs_at : Field → List WrittenTexts → List Row → Read (List WrittenTexts)
held_outputs_at f outputs rows =
    if length outputs == length rows
    then (if list_all holds (zip outputs rows) then Ok outputs else Err (out_of_range f))
    else Err (wrong_shape f)
