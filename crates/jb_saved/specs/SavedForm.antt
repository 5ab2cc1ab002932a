-- The saved rows that a JSON tree holds by its form: the keys of the object as a table, and a row as its parts (own choice).
-- A value of another kind holds nothing. The row rules aren't checked here.
use Rattle.std.specs.Prelude.{ℕ, zero, suc, ◌&&◌, nat_le, List, [], ◌∷◌, ◌++◌, length, codes, Option, Some, None, option_and_then, Result, Ok, Err, if◌then◌else◌, bytes_eq}
use Rattle.std.specs.List.{list_all, list_any}
use Rattle.serde_json.specs.Data.{Data, Items, no_items, item}
use Rattle.serde_json.specs.Events.{items_len}
use Rattle.serde_json.specs.Find as find
use Rattle.jb_base.specs.Limits.{max_name, max_partitions}
use Rattle.jb_job.specs.Reading.{whole_number, member_names}
use Rattle.jb_rules.specs.declared.row.Row.{Row}
use Rattle.jb_rules.specs.declared.row.RowState.{RowState}
use Rattle.jb_rules.specs.Numbers.{row_of_numbers, state_named}
use Rattle.jb_saved.specs.declared.place.SavedPlace.{SavedPlace}
use Rattle.jb_saved.specs.declared.place.SavedPlace.TheVariants.{Shape, Version}
use Rattle.jb_saved.specs.SavedRows.{SavedRows}
use Rattle.jb_saved.specs.SavedTree.{is_known, listed}

-- one value after another: if one is missing, all are
infixl 10 ◌>>=◌
abbrev pub ◌>>=◌ : {A B : Type 0} → Option A → (A → Option B) → Option B
None >>= f = None
(Some x) >>= f = f x

-- ---- a row

-- so many numbers, then the name of a state in which a saved row may be, and nothing else
abbrev pub row_parts : (numbers : ℕ) → Items → Option (List ℕ × RowState)
row_parts zero (item d no_items) = option_and_then state_named (find.as_str d) >>= λ stands. Some ([], stands)
row_parts (suc n) (item d ds) = whole_number d >>= λ one. row_parts n ds >>= λ rest. Some (one ∷ rest.0, rest.1)
row_parts n ds = None

-- the row that a tree holds in a version; a number that the version doesn't list is 0
unfoldable pub row_of_tree : (version : ℕ) → Data → Option Row
row_of_tree n d = find.as_array d >>= λ items. row_parts (listed n) items >>= λ parts. Some (row_of_numbers parts.0 parts.1)

-- each row after those before it, which are done
abbrev pub rows_from_trees : (version : ℕ) → List Row → Items → Option (List Row)
rows_from_trees n done no_items = Some done
rows_from_trees n done (item d ds) = row_of_tree n d >>= λ row. rows_from_trees n (done ++ row ∷ []) ds

-- 1 to 1,024 rows
unfoldable pub rows_of_tree : (version : ℕ) → Data → Option (List Row)
rows_of_tree n d =
    find.as_array d >>= λ items.
    if nat_le 1 (items_len items) && nat_le (items_len items) max_partitions then rows_from_trees n [] items else None

-- ---- the object

abbrev pub saved_keys : List (List ℕ)
saved_keys = codes "rows" ∷ codes "step" ∷ codes "version" ∷ []

-- an object that has no key besides these
unfoldable pub keyed : Data → Option Data
keyed d = find.as_object d >>= λ members. if list_all (λ name. list_any (bytes_eq name) saved_keys) (member_names members) then Some d else None

-- the name of a step
unfoldable pub step_of : Data → Option (List ℕ)
step_of d = find.as_str d >>= λ id. if nat_le 1 (length id) && nat_le (length id) max_name then Some id else None

-- the whole form but for the version's number
unfoldable pub saved_of_tree : (version : ℕ) → Data → Option SavedRows
saved_of_tree n d = do
  object ← keyed d
  rows ← find.get (codes "rows") object >>= rows_of_tree n
  step ← find.get (codes "step") object >>= step_of
  Some (record { step = step; rows = rows })

-- the number of an object's key `version`
abbrev pub version_of : Data → Option ℕ
version_of d = find.get (codes "version") d >>= whole_number

abbrev pub saved_shaped : Option SavedRows → Result SavedRows SavedPlace
saved_shaped None = Err Shape
saved_shaped (Some s) = Ok s

-- A version that is a number is checked before the rest of the form, which depends on it.
abbrev pub form_by : Option ℕ → Data → Result SavedRows SavedPlace
form_by None d = Err Shape
form_by (Some n) d = if is_known n then saved_shaped (saved_of_tree n d) else Err Version

-- the saved rows that a tree holds by its form, or its first fault of form: Version if the key `version` holds the number of
-- another version, else Shape
unfoldable pub saved_form_at : Data → Result SavedRows SavedPlace
saved_form_at d = form_by (version_of d) d
