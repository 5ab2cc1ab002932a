-- What a reader that checks its items means.
use Rattle.std.specs.Prelude.{ℕ, ◌+◌, ◌-◌, ◌&&◌, nat_le, nat_lt, if◌then◌else◌, List, [], length, slice_index_or, Option, Some, None}
use Rattle.jb_base.specs.declared.class.ClassId.{ClassId}
use Rattle.jb_artifacts.specs.declared.faults.FaultPlan.{FaultPlan}
use Rattle.jb_artifacts.specs.declared.faults.FaultPlan.TheVariants.{Sound, Bad}
use Rattle.jb_artifacts.specs.Faults.{FaultTable}

-- an item that is refused can't be read, each time with the class of its refusal
abbrev pub plan_by : (refusal : Option ClassId) → FaultPlan
plan_by None = Sound
plan_by (Some class) = Bad class

-- WHEN THE READS OF CHECKED ITEMS FAIL: at the items, numbered from `first` on, that the check refuses
unfoldable pub checked_plans : (check : List ℕ → Option ClassId) → (first : ℕ) → (items : List (List ℕ)) → FaultTable
checked_plans check first items k =
    if nat_le first k && nat_lt k (first + length items) then plan_by (check (slice_index_or items (k - first) [])) else Sound
