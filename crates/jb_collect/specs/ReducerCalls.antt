-- Which calls a reducer takes (Jakarta Batch 2.1, "Partition Reducer"; their number, order and place are this project's
-- choice).
use Rattle.std.specs.Prelude.{Bool, true, false, ◌&&◌, is_some, List, [], ◌∷◌, ◌++◌}
use Rattle.std.specs.List.{list_any}
use Rattle.jb_collect.specs.declared.calls.ReducerCall.{ReducerCall}
use Rattle.jb_collect.specs.declared.calls.ReducerCall.TheVariants.{Begin, Before, Rollback, After}
use Rattle.jb_collect.specs.declared.calls.PartitionStatus.TheVariants as partitions
use Rattle.jb_collect.specs.declared.calls.Status.{Status}
use Rattle.jb_collect.specs.declared.calls.Status.TheVariants as status
use Rattle.jb_collect.specs.AnsweredCalls.{AnsweredCall}

-- the step is rolled back
abbrev pub rolled_back : List ReducerCall
rolled_back = Rollback ∷ After partitions.Rollback ∷ []

-- before the partitions begin: `begin`, and the rollback of an earlier run's results if these are discarded
abbrev pub calls_before : (overrides : Bool) → List ReducerCall
calls_before false = Begin ∷ []
calls_before true = Begin ∷ Rollback ∷ []

-- after the partitions, by the step's status then and whether `before_completion` fails: the step is completed, or is rolled
-- back
abbrev pub calls_after : Status → (before_failed : Bool) → List ReducerCall
calls_after status.Completed true = Before ∷ rolled_back
calls_after status.Completed false = Before ∷ After partitions.Commit ∷ []
calls_after _ before_failed = rolled_back

-- all calls of a run: if `begin` fails there are no more
abbrev pub reducer_calls : (begun : Bool) → (overrides : Bool) → Status → (before_failed : Bool) → List ReducerCall
reducer_calls false overrides stands before_failed = Begin ∷ []
reducer_calls true overrides stands before_failed = calls_before overrides ++ calls_after stands before_failed

-- `before_completion` was answered with a fault
abbrev pub is_before : ReducerCall → Bool
is_before Before = true
is_before _ = false

abbrev pub before_failed : List (AnsweredCall ReducerCall) → Bool
before_failed taken = list_any (λ t. is_before t.call && is_some t.fault) taken
