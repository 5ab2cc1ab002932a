-- The saved rows that a text holds, or its first fault: of its form, else of its rows.
use Rattle.std.specs.Prelude.{ℕ, ◌||◌, Bool, not, List, position, take, Option, Some, None, Result, Ok, Err}
use Rattle.std.specs.List.{list_any, enumerate_from}
use Rattle.serde_json.specs.Data.{Data}
use Rattle.jb_base.specs.Causes.{Cause, no_memory, of_fault, Answers}
use Rattle.jb_plan.specs.Ranges.{do_overlap}
use Rattle.jb_rules.specs.declared.row.Row.{Row}
use Rattle.jb_rules.specs.Rows.{range_of}
use Rattle.jb_rules.specs.RowTest.{is_sound}
use Rattle.jb_saved.specs.declared.error.SavedError.{SavedError}
use Rattle.jb_saved.specs.declared.error.SavedError.TheVariants.{Refused, Memory}
use Rattle.jb_saved.specs.declared.place.SavedPlace.{SavedPlace}
use Rattle.jb_saved.specs.declared.place.SavedPlace.TheVariants.{NotJson, Rows}
use Rattle.jb_saved.specs.SavedRows.{SavedRows}
use Rattle.jb_saved.specs.SavedForm.{saved_form_at}

-- some record is in the row's range and in an earlier one's
abbrev pub overlaps_some : (earlier : List Row) → Row → Bool
overlaps_some earlier r = list_any (λ (s : Row). do_overlap (range_of s) (range_of r)) earlier

-- the row breaks a row rule, or its range overlaps an earlier one's
abbrev pub is_unfit : (earlier : List Row) → Row → Bool
is_unfit earlier r = not (is_sound r) || overlaps_some earlier r

-- the first row that does
unfoldable pub first_unfit : List Row → Option ℕ
first_unfit rows = position (λ (numbered : ℕ × Row). is_unfit (take numbered.0 rows) numbered.1) (enumerate_from 0 rows)

-- the faults of the rows come after those of the form
abbrev pub checked_by : Option ℕ → SavedRows → Result SavedRows SavedPlace
checked_by None s = Ok s
checked_by (Some i) s = Err (Rows i)

abbrev pub checked_rows : Result SavedRows SavedPlace → Result SavedRows SavedPlace
checked_rows (Ok s) = checked_by (first_unfit s.rows) s
checked_rows (Err place) = Err place

-- the saved rows that a tree holds, or its first fault
unfoldable pub saved_at : Data → Result SavedRows SavedPlace
saved_at d = checked_rows (saved_form_at d)

-- the same of a text, by its tree; a text without a tree is no JSON
abbrev pub answer_of : Option Data → Result SavedRows SavedPlace
answer_of None = Err NotJson
answer_of (Some d) = saved_at d

-- what an error says of a saved text
abbrev pub saved_cause : SavedError → Cause SavedPlace
saved_cause (Refused place) = of_fault place
saved_cause Memory = no_memory

-- what a function returned is this answer, unless memory ran out
abbrev pub GivesSaved : Result SavedRows SavedError → Result SavedRows SavedPlace → Type 0
GivesSaved result answer = Answers saved_cause (λ s. s) result answer
