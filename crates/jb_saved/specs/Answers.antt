-- What reading a saved text answers, said of each row by the row rules themselves; and what saving refuses.
use Rattle.std.specs.Prelude.{◌≡◌, ℕ, ◌<◌, List, length, position, slice_get, Option, Some, None, Result, Ok, Err}
use Rattle.serde_json.specs.Data.{Data}
use Rattle.jb_plan.specs.Ranges.{HaveNoneInCommon}
use Rattle.jb_rules.specs.declared.row.Row.{Row}
use Rattle.jb_rules.specs.Rows.{range_of}
use Rattle.jb_rules.specs.Sound.{IsSoundRow}
use Rattle.jb_rules.specs.States.{is_running}
use Rattle.jb_saved.specs.declared.error.SavedError.{SavedError}
use Rattle.jb_saved.specs.declared.error.SavedError.TheVariants.{Refused, Memory}
use Rattle.jb_saved.specs.declared.place.SavedPlace.{SavedPlace}
use Rattle.jb_saved.specs.declared.place.SavedPlace.TheVariants.{NotJson, Rows}
use Rattle.jb_saved.specs.SavedRows.{SavedRows}
use Rattle.jb_saved.specs.SavedForm.{saved_form_at}

-- no record of the i-th row's range belongs to an earlier row's; an empty range has no record
abbrev pub IsApartFromEarlier : List Row → (i : ℕ) → Row → Type 0
IsApartFromEarlier rows i r = (k : ℕ) (s : Row) → k < i → slice_get rows k ≡ Some s → HaveNoneInCommon (range_of s) (range_of r)

-- the i-th row keeps the row rules, and its range overlaps no earlier one
abbrev pub IsFitRow : List Row → (i : ℕ) → Type 0
IsFitRow rows i = (r : Row) → slice_get rows i ≡ Some r → IsSoundRow r × IsApartFromEarlier rows i r

-- each row does
abbrev pub AllFit : List Row → Type 0
AllFit rows = (i : ℕ) → i < length rows → IsFitRow rows i

-- the i-th row is the first that doesn't
pub record IsFirstUnfit (rows : List Row) (i : ℕ) : Type 0 where
  pub here : i < length rows
  pub earlier : (k : ℕ) → k < i → IsFitRow rows k
  pub unfit : IsFitRow rows i → ⊥

-- the saved rows of a text's tree by its form; a text without a tree is no JSON
abbrev pub saved_form_of : Option Data → Result SavedRows SavedPlace
saved_form_of None = Err NotJson
saved_form_of (Some d) = saved_form_at d

-- A text holds saved rows, or it has a first fault: of its form, else of its rows.
abbrev pub IsSavedAnswer : Option Data → Result SavedRows SavedPlace → Type 0
IsSavedAnswer tree (Ok s) = (saved_form_of tree ≡ Ok s) × AllFit s.rows
IsSavedAnswer tree (Err (Rows i)) = (s : SavedRows) × (saved_form_of tree ≡ Ok s) × IsFirstUnfit s.rows i
IsSavedAnswer tree (Err place) = saved_form_of tree ≡ Err place

-- ---- saving

-- the first row whose partition is running
abbrev pub first_running : List Row → Option ℕ
first_running rows = position (λ (r : Row). is_running r.state) rows

-- rows aren't saved while one is running: the first is named; memory runs out only if none is
abbrev pub RefusesRunning : SavedError → Option ℕ → Type 0
RefusesRunning (Refused place) (Some i) = place ≡ Rows i
RefusesRunning (Refused place) None = ⊥
RefusesRunning Memory running = running ≡ None
