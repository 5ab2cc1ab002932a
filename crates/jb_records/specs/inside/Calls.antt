-- What the calls below a step's run ask for.
use Rattle.std.specs.Prelude.{ℕ, ◌≡◌, List, length, Some, slice_get}
use Rattle.std.specs.List.{AllByRecursion}
use Rattle.jb_plan.specs.Plans.{IsWithin}
use Rattle.jb_rules.specs.declared.row.Row.{Row}
use Rattle.jb_rules.specs.Rows.{range_of}
use Rattle.jb_records.specs.PartitionResults.{AreNumbered}

-- the partition of this number and row: the records of its range are there, and it has its share
pub record HasOwn (records : ℕ) (rows : List Row) (partition_results : List (List (List ℕ))) (n : ℕ × Row) : Type 0 where
  pub row : slice_get rows n.0 ≡ Some n.1
  pub within : IsWithin records (range_of n.1)
  pub share : List (List ℕ)
  pub given : slice_get partition_results n.0 ≡ Some share
  pub number : length share ≡ n.1.written

-- the same of partitions that are named by their numbers
abbrev pub HaveOwn : (records : ℕ) → List Row → (partition_results : List (List (List ℕ))) → (partitions : List ℕ) → Type 0
HaveOwn records rows partition_results ps = AllByRecursion (λ p. (row : Row) × HasOwn records rows partition_results (p, row)) ps

-- the records of each row's range are there, and each partition has its share
pub record CanBeginOver (records : ℕ) (rows : List Row) (partition_results : List (List (List ℕ))) : Type 0 where
  pub within : (p : ℕ) (row : Row) → slice_get rows p ≡ Some row → IsWithin records (range_of row)
  pub numbered : AreNumbered rows partition_results
