-- Saved rows as a step resumes from them.
use Rattle.std.specs.Prelude.{◌≡◌, ◌≢◌, ℕ, ◌++◌, Bool, not, nat_lt, if◌then◌else◌, List, [], ◌∷◌, map, slice_get, bytes_eq, Some}
use Rattle.std.specs.List.{list_any}
use Rattle.jb_rules.specs.declared.row.Row.{Row}
use Rattle.jb_rules.specs.declared.row.RowState.TheVariants.{Failed}
use Rattle.jb_rules.specs.Rows.{dropped_row}
use Rattle.jb_rules.specs.States.{is_failed}
use Rattle.jb_saved.specs.declared.error.SavedError.{SavedError}
use Rattle.jb_saved.specs.declared.error.SavedError.TheVariants.{Refused, Memory}
use Rattle.jb_saved.specs.declared.place.SavedPlace.{SavedPlace}
use Rattle.jb_saved.specs.declared.place.SavedPlace.TheVariants.{Step, Records}
use Rattle.jb_saved.specs.SavedRows.{SavedRows}

-- A failed partition waits again (Jakarta Batch 2.1, "Restart Processing"), at its checkpoint and with its counts. Any other
-- is as it was saved.
abbrev pub restarted : Row → Row
restarted row = if is_failed row.state then dropped_row row else row

-- the rows with which the step resumes
abbrev pub rows_restarted : SavedRows → List Row
rows_restarted s = map restarted s.rows

-- no partition has failed
abbrev pub AreUnfailed : List Row → Type 0
AreUnfailed rows = (i : ℕ) (r : Row) → slice_get rows i ≡ Some r → r.state ≢ Failed

-- some row ends past the last record
abbrev pub ends_past : (records : ℕ) → List Row → Bool
ends_past records rows = list_any (λ (r : Row). nat_lt records r.hi) rows

-- this fault, if the condition holds
abbrev pub fault_if : Bool → SavedPlace → List SavedPlace
fault_if holds fault = if holds then fault ∷ [] else []

-- the fault of saved rows that are to be discarded by a step of this id: their ranges aren't looked at
abbrev pub other_step : (step : List ℕ) → SavedRows → List SavedPlace
other_step step s = fault_if (not (bytes_eq s.step step)) Step

-- all faults of saved rows from which a step of this id and so many records resumes, in the order in which they count
abbrev pub step_faults : (step : List ℕ) → (records : ℕ) → SavedRows → List SavedPlace
step_faults step records s = other_step step s ++ fault_if (ends_past records s.rows) Records

-- the first of the faults; memory runs out only if there are no faults
abbrev pub Refuses : SavedError → List SavedPlace → Type 0
Refuses (Refused place) faults = slice_get faults 0 ≡ Some place
Refuses Memory faults = faults ≡ []
