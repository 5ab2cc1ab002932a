-- What a run takes over from an earlier one.
use Rattle.std.specs.Prelude.{ℕ, ◌≡◌, List, Option, Some, Ok}
use Rattle.jb_base.specs.Rules.{RulesRecord}
use Rattle.jb_job.specs.Reading.{tree_of}
use Rattle.jb_saved.specs.GoingOn.{rows_restarted}
use Rattle.jb_saved.specs.Reading.{answer_of}
use Rattle.jb_saved.specs.SavedRows.{SavedRows}
use Rattle.jb_records.specs.Following.{FollowRules}
use Rattle.jb_records.specs.Function.{Function}
use Rattle.jb_records.specs.PartitionResults.{IsSoFar, joined}

-- THE SAVED ROWS AND THE RESULTS OF A STOPPED RUN of this function over these very records: they are the shares of its
-- partitions, joined
pub record IsStoppedRun (f : Function) (records : List (List ℕ)) (saved : Option SavedRows) (earlier : List (List ℕ)) : Type 0 where
  pub held : SavedRows
  pub given : saved ≡ Some held
  pub partition_results : List (List (List ℕ))
  pub so_far : IsSoFar f records held.rows partition_results
  pub results : joined partition_results ≡ earlier

-- the same, where this text holds the saved rows
pub record HoldsStoppedRun (f : Function) (records : List (List ℕ)) (text : List ℕ) (earlier : List (List ℕ)) : Type 0 where
  pub held : SavedRows
  pub read : answer_of (tree_of text) ≡ Ok held
  pub partition_results : List (List (List ℕ))
  pub so_far : IsSoFar f records held.rows partition_results
  pub results : joined partition_results ≡ earlier

-- the rows of this text follow these rules, once the failed ones wait again
pub record FollowAgain (f : Function) (rules : RulesRecord) (records : List (List ℕ)) (text : List ℕ) : Type 0 where
  pub held : SavedRows
  pub read : answer_of (tree_of text) ≡ Ok held
  pub follow : FollowRules f rules records (rows_restarted held)
