-- How a step begins by its rules.
use Rattle.std.specs.Prelude.{ℕ, ◌≡◌, List, length}
use Rattle.jb_base.specs.Rules.{RulesRecord}
use Rattle.jb_step.specs.preparing.Setup.{Setup}
use Rattle.jb_records.specs.declared.step.RecordsStep.{RecordsStep}
use Rattle.jb_records.specs.Following.{FollowRules, ranges_of}
use Rattle.jb_records.specs.Function.{Function, IsSteady}
use Rattle.jb_records.specs.Made.{even_partitions}
use Rattle.jb_records.specs.PartitionResults.{IsSoFar}
use Rattle.jb_records.specs.Skips.{AreCounted}

-- from the start: it is so far, with the even ranges of all records; its rows count their skips and follow its rules
pub record IsFresh (f : Function) (step : RecordsStep) (records : List (List ℕ)) (s : Setup) (partition_results : List (List (List ℕ))) : Type 0 where
  pub so_far : IsSoFar f records s.rows partition_results
  pub counted : AreCounted f records s.rows
  pub follows : FollowRules f s.rules records s.rows
  pub ranges : ranges_of s.rows ≡ (even_partitions step (length records)).ranges

-- resuming an earlier run
pub record GoesOnByRules (f : Function) (rules : RulesRecord) (records : List (List ℕ)) (s : Setup) (partition_results : List (List (List ℕ))) : Type 0 where
  pub steady : IsSteady f
  pub so_far : IsSoFar f records s.rows partition_results
  pub rules_are : s.rules ≡ rules
  pub follows : FollowRules f s.rules records s.rows
