-- WHICH JOB MUST FAIL. No checkpoint, no thread and no run is named.
use Rattle.std.specs.Prelude.{ℕ, ◌-◌, ◌≤◌, List, [], ◌∷◌, length, take, drop, MatchOption, ⊤}
use Rattle.jb_base.specs.Rules.{RulesRecord}
use Rattle.jb_base.specs.declared.range.Range.{Range}
use Rattle.jb_mapper.specs.EvenCover.{even_ranges}
use Rattle.jb_slices.specs.Function.{Function, ItemsPass, fault_classes}
use Rattle.jb_slices.specs.Job.{Job, Limits, rules_of, slice_at}

-- the items of each of these ranges, one after the other, pass
abbrev pub RangesPass : Function → RulesRecord → (from : ℕ) → (items : List (List ℕ)) → List Range → Type 0
RangesPass f rules from items [] = ⊤
RangesPass f rules from items (range ∷ ranges) = ItemsPass f rules (take (range.hi - from) items) × RangesPass f rules range.hi (drop (range.hi - from) items) ranges

-- the items of each partition of a slice pass
abbrev pub SlicePasses : Job → Limits → Function → (items : List (List ℕ)) → Type 0
SlicePasses job limits f items = RangesPass f (rules_of job limits) 0 items (even_ranges (length items) job.partitions)

-- IN EACH SLICE THOSE OF EACH PARTITION PASS, and all faults together are no more than the job's limit
pub record AllPass (job : Job) (limits : Limits) (f : Function) (items : List (List ℕ)) : Type 0 where
  pub each : (k : ℕ) → SlicePasses job limits f (slice_at job items k)
  pub few : MatchOption limits.job_skips ⊤ (λ limit. length (fault_classes f items) ≤ limit)
