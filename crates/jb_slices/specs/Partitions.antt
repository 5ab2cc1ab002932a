-- How far the partitions of a slice are.
use Rattle.std.specs.Prelude.{ℕ, suc, ◌≡◌, ◌≤◌, ◌<◌, ◌+◌, ◌-◌, ◌⊎◌, true, List, [], ◌∷◌, ◌++◌, length, take, drop, map, Some, slice_index_or}
use Rattle.std.specs.List.{AllByRecursion, flat_map}
use Rattle.jb_base.specs.Rules.{RulesRecord}
use Rattle.jb_base.specs.declared.range.Range.{Range}
use Rattle.jb_rules.specs.States.{has_ended}
use Rattle.jb_rules.specs.Rows.{range_of, skips_of}
use Rattle.jb_rules.specs.declared.row.RowState.TheVariants.{Finished, Failed}
use Rattle.jb_slices.specs.Checkpoint.{Progress}
use Rattle.jb_slices.specs.Function.{Fault, Function, ItemsPass, all_results, faults_from, refusal_of}

-- ---- one partition

-- THE FAULT BY WHICH A PARTITION FAILS: all items before it pass, and with it they don't. The partition's first item has the number `first`.
pub record IsStop (f : Function) (rules : RulesRecord) (first : ℕ) (own : List (List ℕ)) (fault : Fault) : Type 0 where
  pub before : ℕ
  pub within : before < length own
  pub number : fault.number ≡ first + before
  pub class : refusal_of f (slice_index_or own before []) ≡ Some fault.class
  pub passed : ItemsPass f rules (take before own)
  pub fails : ItemsPass f rules (take (suc before) own) → ⊥

-- the partition's items before its checkpoint
abbrev pub passed_items : (own : List (List ℕ)) → Progress → List (List ℕ)
passed_items own p = take (p.row.at - p.row.lo) own

-- These items passed. Their results and faults are here, as many as the row counts. The partition failed only by the named fault.
pub record IsPartitionSoFar (f : Function) (rules : RulesRecord) (first : ℕ) (own : List (List ℕ)) (p : Progress) : Type 0 where
  pub results : p.results ≡ all_results f (passed_items own p)
  pub skips : p.skips ≡ faults_from f first (passed_items own p)
  pub written : p.row.written ≡ length p.results
  pub counted : p.row.counts.process_skip ≡ length p.skips
  pub skipped : skips_of p.row ≡ length p.skips
  pub passed : ItemsPass f rules (passed_items own p)
  pub failed : p.row.state ≡ Failed → (fault : Fault) × (p.stop ≡ Some fault) × IsStop f rules first own fault
  pub finished : p.row.state ≡ Finished → p.row.at ≡ p.row.hi

-- ---- all of a slice

-- The partitions, one after the other, have these items. The slice's first item has the number `first` in the job. These items begin `from`
-- items later.
abbrev pub ArePartitionsSoFar : Function → RulesRecord → (first from : ℕ) → (items : List (List ℕ)) → List Progress → Type 0
ArePartitionsSoFar f rules first from items [] = items ≡ []
ArePartitionsSoFar f rules first from items (p ∷ ps) =
    (p.row.lo ≡ from) × (from ≤ p.row.hi) × IsPartitionSoFar f rules (first + from) (take (p.row.hi - from) items) p
    × ArePartitionsSoFar f rules first p.row.hi (drop (p.row.hi - from) items) ps

abbrev pub ranges_of : List Progress → List Range
ranges_of ps = map (λ (p : Progress). range_of p.row) ps

abbrev pub AreFinished : List Progress → Type 0
AreFinished ps = AllByRecursion (λ (p : Progress). p.row.state ≡ Finished) ps

abbrev pub HaveEnded : List Progress → Type 0
HaveEnded ps = AllByRecursion (λ (p : Progress). has_ended p.row.state ≡ true) ps

abbrev pub HasFailed : List Progress → Type 0
HasFailed [] = ⊥
HasFailed (p ∷ ps) = (p.row.state ≡ Failed) ⊎ HasFailed ps

-- ---- from checkpoint to checkpoint

-- how far the partition is now; what is new comes after what there was
abbrev pub grown_by : (before now : Progress) → Progress
grown_by before now = record now { results = before.results ++ now.results; skips = before.skips ++ now.skips }

abbrev pub grown : (before now : List Progress) → List Progress
grown [] now = now
grown (b ∷ bs) [] = []
grown (b ∷ bs) (n ∷ ns) = grown_by b n ∷ grown bs ns

-- what the partitions have, one after the other
abbrev pub joined_results : List Progress → List (List ℕ)
joined_results ps = flat_map (λ (p : Progress). p.results) ps

abbrev pub joined_skips : List Progress → List Fault
joined_skips ps = flat_map (λ (p : Progress). p.skips) ps
