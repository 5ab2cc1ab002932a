-- THE FAILED PARTITIONS OF A SLICE, each with the fault by which it failed, from the slice's list alone.
use Rattle.std.specs.Prelude.{ℕ, suc, ◌≡◌, ◌+◌, Bool, true, false, List, [], ◌∷◌, length, Option, None, Some, slice_range}
use Rattle.std.specs.List.{AllByRecursion}
use Rattle.jb_base.specs.Rules.{RulesRecord}
use Rattle.jb_base.specs.declared.range.Range.{Range}
use Rattle.jb_rules.specs.Rows.{range_of}
use Rattle.jb_rules.specs.States.{is_failed}
use Rattle.jb_rules.specs.declared.row.Row.{Row}
use Rattle.jb_slices.specs.Checkpoint.{Checkpoint, Progress}
use Rattle.jb_slices.specs.Function.{Fault, Function}
use Rattle.jb_slices.specs.Job.{Job, first_of, rules_of}
use Rattle.jb_slices.specs.Partitions.{IsStop}
use Rattle.jb_slices.specs.Slice.{Functions, IsSliceSoFar, slice_state}

-- the number of a partition, its items' places in the slice, and its fault
pub record PartitionFailure : Type 0 where
  pub partition : ℕ
  pub range : Range
  pub fault : Fault

abbrev pub failure_and : (partition : ℕ) → Row → (failed : Bool) → (stop : Option Fault) → (later : List PartitionFailure) → List PartitionFailure
failure_and partition row true (Some fault) later = record { partition = partition; range = range_of row; fault = fault } ∷ later
failure_and partition row true None later = later
failure_and partition row false stop later = later

-- the failures of these partitions; the first partition has this number
abbrev pub failures_from : (partition : ℕ) → List Progress → List PartitionFailure
failures_from partition [] = []
failures_from partition (p ∷ ps) = failure_and partition p.row (is_failed p.row.state) p.stop (failures_from (suc partition) ps)

abbrev pub failures_in : List Checkpoint → List PartitionFailure
failures_in all = failures_from 0 (slice_state all).partitions

-- how many partitions have failed
abbrev pub failed_count : (failed : Bool) → (later : ℕ) → ℕ
failed_count true later = suc later
failed_count false later = later

abbrev pub count_failed : List Progress → ℕ
count_failed [] = 0
count_failed (p ∷ ps) = failed_count (is_failed p.row.state) (count_failed ps)

-- By the rules, the items of this range fail by this fault. The slice's first item has the number `first`.
abbrev pub IsFailureOf : Function → RulesRecord → (first : ℕ) → (items : List (List ℕ)) → PartitionFailure → Type 0
IsFailureOf f rules first items failure = IsStop f rules (first + failure.range.lo) (slice_range items failure.range.lo failure.range.hi) failure.fault

-- THE LAW: each fault that a list names is the fault by which the partition's items fail under the rules
abbrev pub FailuresAreNamed : Type 0
FailuresAreNamed =
    (job : Job) (functions : Functions) (number : ℕ) (items : List (List ℕ)) (all : List Checkpoint) → IsSliceSoFar job functions number items all
    → AllByRecursion (IsFailureOf (functions (slice_state all).stamp) (rules_of job (slice_state all).limits) (first_of job number) items) (failures_in all)

-- THE LAW: each failed partition has such a fault
abbrev pub EachFailureIsNamed : Type 0
EachFailureIsNamed =
    (job : Job) (functions : Functions) (number : ℕ) (items : List (List ℕ)) (all : List Checkpoint) → IsSliceSoFar job functions number items all
    → length (failures_in all) ≡ count_failed (slice_state all).partitions
