-- What is new of the partitions of a slice in an interval.
use Rattle.std.specs.Prelude.{ℕ, ◌≡◌, ◌≤◌, List, [], ◌∷◌, drop, length, slice_get, Option, None, Some, option_map, MatchOption, ⊤}
use Rattle.jb_base.specs.Rules.{RulesRecord}
use Rattle.jb_ready.specs.declared.notes.Note.{Note}
use Rattle.jb_rules.specs.Sound.{IsPlaced}
use Rattle.jb_rules.specs.declared.row.Row.{Row}
use Rattle.jb_records.specs.Following.{FollowsRules}
use Rattle.jb_records.specs.Function.{steady}
use Rattle.jb_records.specs.Skips.{skips_between}
use Rattle.jb_slices.specs.Function.{Fault, Function}
use Rattle.jb_slice_run.specs.Rows.{IsStopNamed, fault_at, faults_at}
use Rattle.jb_slice_run.specs.Strings.{NewOutput}

-- where a partition was: at its row's checkpoint, or at its first record if there is no row before
abbrev pub from_of : Option Row → Row → ℕ
from_of None row = row.lo
from_of (Some before) row = before.at

-- how many records it had skipped there
abbrev pub skipped_before : Option Row → ℕ
skipped_before None = 0
skipped_before (Some before) = before.counts.process_skip

-- the row before had the same first record and no later checkpoint, and it counted the records skipped until then
pub record HasGrown (f : Function) (records : List (List ℕ)) (before row : Row) : Type 0 where
  pub lo : row.lo ≡ before.lo
  pub from : before.lo ≤ before.at
  pub at : before.at ≤ row.at
  pub counted : before.counts.process_skip ≡ length (skips_between (steady f) records before.lo before.at)

-- a row that follows the rules and has grown from the one before it, if there is one
pub record CanGrow (f : Function) (rules : RulesRecord) (records : List (List ℕ)) (before : Option Row) (row : Row) : Type 0 where
  pub placed : IsPlaced row
  pub within : row.hi ≤ length records
  pub follows : FollowsRules (steady f) rules records row
  pub since : MatchOption before ⊤ (λ b. HasGrown f records b row)

-- this is the fault by which the row's partition failed, if it failed
pub record IsStopOfPartition (f : Function) (rules : RulesRecord) (first : ℕ) (records : List (List ℕ)) (row : Row) (fault : Option Fault) : Type 0 where
  pub stop : Option Note
  pub stop_is : fault ≡ option_map (fault_at first) stop
  pub named : IsStopNamed f rules records row stop

-- WHAT IS NEW OF A PARTITION: these results, the faults of the records skipped between the two checkpoints, and the fault by which it failed
pub record IsNewOutputOf (f : Function) (rules : RulesRecord) (first : ℕ) (records : List (List ℕ)) (before : Option Row) (row : Row) (results : List (List ℕ)) (new_output : NewOutput) : Type 0 where
  pub results_are : new_output.results ≡ results
  pub skips_are : new_output.skips ≡ faults_at first (skips_between (steady f) records (from_of before row) row.at)
  pub agrees : IsStopOfPartition f rules first records row new_output.stop

-- the same for each partition, since the rows `before`, or since its start if these are empty
abbrev pub CanAllGrow : Function → RulesRecord → (records : List (List ℕ)) → (before rows : List Row) → Type 0
CanAllGrow f rules records before [] = ⊤
CanAllGrow f rules records before (row ∷ rows) = CanGrow f rules records (slice_get before 0) row × CanAllGrow f rules records (drop 1 before) rows

abbrev pub AreNewOutputsOf : Function → RulesRecord → (first : ℕ) → (records : List (List ℕ)) → (before rows : List Row) → (results : List (List (List ℕ))) → List NewOutput → Type 0
AreNewOutputsOf f rules first records before [] [] [] = ⊤
AreNewOutputsOf f rules first records before (row ∷ rows) (one ∷ results) (new ∷ new_output) =
    IsNewOutputOf f rules first records (slice_get before 0) row one new × AreNewOutputsOf f rules first records (drop 1 before) rows results new_output
AreNewOutputsOf f rules first records before _ _ _ = ⊥
