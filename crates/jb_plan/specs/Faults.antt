-- What is wrong with a partition plan, as the list of its errors in the order in which they are answered.
use Rattle.std.specs.Prelude.{◌≡◌, ℕ, ◌+◌, ◌==◌, nat_lt, Bool, if◌then◌else◌, List, [], ◌∷◌, ◌++◌, length, slice_get, Some}
use Rattle.jb_base.specs.declared.range.Range.{Range}
use Rattle.jb_plan.specs.declared.fault.PlanError.{PlanError}
use Rattle.jb_plan.specs.declared.fault.PlanError.TheVariants.{NoPartition, TooMany, Reversed, PastEnd, Overlap, Threads}
use Rattle.jb_plan.specs.declared.plan.PartitionPlan.{PartitionPlan}
use Rattle.jb_base.specs.Limits.{max_partitions, max_threads_asked}
use Rattle.jb_plan.specs.Ranges.{do_overlap}

-- this error, if the condition holds
abbrev pub error_if : Bool → PlanError → List PlanError
error_if holds error = if holds then error ∷ [] else []

-- each range by itself, from range i on: it ends before it begins, or past the last record
abbrev pub bound_errors : (records i : ℕ) → List Range → List PlanError
bound_errors records i [] = []
bound_errors records i (r ∷ ranges) =
    error_if (nat_lt r.hi r.lo) (Reversed i) ++ error_if (nat_lt records r.hi) (PastEnd i) ++ bound_errors records (i + 1) ranges

-- range i, which is r, with each later one, from range j on
abbrev pub overlaps_with : (i : ℕ) → Range → (j : ℕ) → List Range → List PlanError
overlaps_with i r j [] = []
overlaps_with i r j (s ∷ ranges) = error_if (do_overlap r s) (Overlap i j) ++ overlaps_with i r (j + 1) ranges

-- each range, from range i on, with each later one
abbrev pub overlap_errors : (i : ℕ) → List Range → List PlanError
overlap_errors i [] = []
overlap_errors i (r ∷ ranges) = overlaps_with i r (i + 1) ranges ++ overlap_errors (i + 1) ranges

-- no range at all, or each range by itself
abbrev pub range_errors : (records : ℕ) → List Range → List PlanError
range_errors records ranges = error_if (length ranges == 0) NoPartition ++ bound_errors records 0 ranges

-- the errors of a plan for a step of so many records
abbrev pub plan_errors : (records : ℕ) → PartitionPlan → List PlanError
plan_errors records plan =
    error_if (nat_lt max_partitions (length plan.ranges)) TooMany
    ++ range_errors records plan.ranges
    ++ overlap_errors 0 plan.ranges
    ++ error_if (nat_lt max_threads_asked plan.threads) Threads

-- the one that is answered
abbrev pub IsFirst : PlanError → List PlanError → Type 0
IsFirst error errors = slice_get errors 0 ≡ Some error
