-- Partition plans that can be run.
use Rattle.std.specs.Prelude.{ℕ, ◌≤◌, ◌==◌, if◌then◌else◌, min, Bool, List, length, All}
use Rattle.jb_base.specs.declared.range.Range.{Range}
use Rattle.jb_plan.specs.declared.plan.PartitionPlan.{PartitionPlan}
use Rattle.jb_plan.specs.Ranges.{AreDisjoint}
use Rattle.jb_base.specs.Limits.{max_partitions, max_records, max_threads, max_threads_asked}

-- a range of records below `records`; it may be empty
abbrev pub IsWithin : (records : ℕ) → Range → Type 0
IsWithin records r = (r.lo ≤ r.hi) × (r.hi ≤ records)

-- A plan that can be run by a step of so many records. Jakarta Batch 2.1 ("Partition Mapper") leaves the meaning of a
-- partition to the application. That partitions are ranges of records, and the limits, are this project's choice.
pub record IsRunnable (records : ℕ) (plan : PartitionPlan) : Type 0 where
  pub some : 1 ≤ length plan.ranges
  pub few : length plan.ranges ≤ max_partitions
  pub within : All (IsWithin records) plan.ranges
  pub disjoint : AreDisjoint plan.ranges
  pub threads : plan.threads ≤ max_threads_asked

-- as many threads as the plan asks for, or one for each range if it asks for 0; at most 64
abbrev pub threads_of : PartitionPlan → ℕ
threads_of plan = min (if plan.threads == 0 then length plan.ranges else plan.threads) max_threads

-- what a checked plan shows
pub record CheckedPlan : Type 0 where
  pub ranges : List Range
  pub threads : ℕ
  pub replace : Bool

abbrev pub checked_plan : PartitionPlan → CheckedPlan
checked_plan plan = record { ranges = plan.ranges; threads = threads_of plan; replace = plan.replace }

-- the invariant of a checked plan
pub record IsCheckedPlan (plan : CheckedPlan) : Type 0 where
  pub some : 1 ≤ length plan.ranges
  pub few : length plan.ranges ≤ max_partitions
  pub within : All (IsWithin max_records) plan.ranges
  pub disjoint : AreDisjoint plan.ranges
  pub some_threads : 1 ≤ plan.threads
  pub few_threads : plan.threads ≤ max_threads
