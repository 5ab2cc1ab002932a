-- Where a record's plan is in a list of plans that is in the order of the records' numbers.
use Rattle.std.specs.Prelude.{ℕ, ◌≡◌, ◌<◌, ◌≤◌, List, length, slice_get, Some, Result, Ok, Err}
use Rattle.std.specs.List.Sorted.{IsStrictlySortedBy, IsPartitionPoint}
use Rattle.std.specs.Map.{keys_of}
use Rattle.std.specs.Ordering.{nat_cmp}
use Rattle.jb_artifacts.specs.declared.faults.FaultPlan.{FaultPlan}

-- some records' plans, with the records' numbers
abbrev pub Entries : Type 0
Entries = List (ℕ × FaultPlan)

-- each number is below the next
abbrev pub DoNumbersRise : Entries → Type 0
DoNumbersRise entries = IsStrictlySortedBy nat_cmp (keys_of entries)

-- exactly the entries before this place have smaller numbers
pub record IsPlaceOf (number : ℕ) (entries : Entries) (place : ℕ) : Type 0 where
  pub bound : place ≤ length entries
  pub parts : IsPartitionPoint (λ entry. entry.0 < number) (λ entry. number ≤ entry.0) entries place

-- the entries before this place have smaller numbers, and the others larger ones
pub record IsGapFor (number : ℕ) (entries : Entries) (place : ℕ) : Type 0 where
  pub bound : place ≤ length entries
  pub parts : IsPartitionPoint (λ entry. entry.0 < number) (λ entry. number < entry.0) entries place

-- the record's plan is at this place; or no plan is the record's, and this is where it would go
abbrev pub IsSearched : (number : ℕ) → Entries → Result ℕ ℕ → Type 0
IsSearched number entries (Ok place) = (plan : FaultPlan) × (slice_get entries place ≡ Some (number, plan))
IsSearched number entries (Err place) = IsGapFor number entries place
