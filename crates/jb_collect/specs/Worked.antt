-- Worked rows: what the definitions give, computed apart from the code, on partitions of the chunk crate's worked rows.
use Rattle.std.specs.Prelude.{◌≡◌, ℕ, Bool, true, false, Some, None, List, [], ◌∷◌, codes, map}
use Rattle.jb_rules.specs.declared.row.Row.{Row}
use Rattle.jb_chunk.specs.Attempt.{attempt_of}
use Rattle.jb_chunk.specs.TaskState.{TaskState}
use Rattle.jb_chunk.specs.Worked.{class_e, strict, sound, task, first_task, second_task, recordless_task, failed_task, beside_failed_task, retried_task}
use Rattle.jb_collect.specs.declared.calls.Status.{Status}
use Rattle.jb_collect.specs.declared.calls.Status.TheVariants.{Stopped, Failed, Completed}
use Rattle.jb_collect.specs.declared.calls.AnalyzerCall.{AnalyzerCall}
use Rattle.jb_collect.specs.declared.calls.AnalyzerCall.TheVariants as call
use Rattle.jb_collect.specs.declared.calls.ReducerCall.TheVariants.{Begin, Before, Rollback, After}
use Rattle.jb_collect.specs.declared.calls.PartitionStatus.TheVariants as end
use Rattle.jb_collect.specs.Heard.{heard_of, heard_by}
use Rattle.jb_collect.specs.Listed.{answered_calls_of}
use Rattle.jb_collect.specs.ReducerCalls.{before_failed, reducer_calls}
use Rattle.jb_collect.specs.AnsweredCalls.{AreTaken, well, faulted}

abbrev pub text : ℕ → List ℕ → AnalyzerCall
text partition letters = call.Collected partition letters

abbrev pub ended : ℕ → Status → AnalyzerCall
ended partition status = call.Status partition status

abbrev pub task_rows : List TaskState → List Row
task_rows tasks = map (λ t. t.row) tasks

-- the task after its next attempt
abbrev pub next_task : TaskState → TaskState
next_task t = (attempt_of t).task

-- WHAT IS HEARD

-- the first run: three records in two partitions, each finished by its first chunk
abbrev pub FirstRunHeard : Type 0
FirstRunHeard =
    heard_by true (task_rows (first_task ∷ second_task ∷ [])) (attempt_of first_task ∷ attempt_of second_task ∷ [])
    (next_task first_task ∷ next_task second_task ∷ [])
    ≡ text 0 (codes "0:2:2") ∷ text 0 (codes "0:2:2:end") ∷ ended 0 Completed
    ∷ text 1 (codes "1:3:1") ∷ text 1 (codes "1:3:1:end") ∷ ended 1 Completed ∷ []

-- one failed partition beside one that is finished: its status comes with the attempt that fails
abbrev pub OneFailedHeard : Type 0
OneFailedHeard =
    heard_by true (task_rows (failed_task ∷ beside_failed_task ∷ []))
    (attempt_of failed_task ∷ attempt_of beside_failed_task ∷ attempt_of (next_task failed_task) ∷ [])
    (next_task (next_task failed_task) ∷ next_task beside_failed_task ∷ [])
    ≡ text 0 (codes "0:2:1") ∷ text 1 (codes "1:6:2") ∷ text 1 (codes "1:6:2:end") ∷ ended 1 Completed ∷ ended 0 Failed ∷ []

-- seven records in three partitions, stopped after one round in which the first two ran
abbrev pub seven : (partition lo hi : ℕ) → TaskState
seven partition lo hi = task partition lo hi 2 strict sound sound sound

abbrev pub StoppedAfterARound : Type 0
StoppedAfterARound =
    heard_by true (task_rows (seven 0 0 3 ∷ seven 1 3 5 ∷ seven 2 5 7 ∷ [])) (attempt_of (seven 0 0 3) ∷ attempt_of (seven 1 3 5) ∷ [])
    (next_task (seven 0 0 3) ∷ next_task (seven 1 3 5) ∷ seven 2 5 7 ∷ [])
    ≡ text 0 (codes "0:2:2") ∷ text 1 (codes "1:5:2") ∷ text 1 (codes "1:5:2:end") ∷ ended 1 Completed
    ∷ ended 0 Stopped ∷ ended 2 Stopped ∷ []

-- no record at all: the partition is completed where the step begins it, and not heard of again at a restart
pub record NoRecordHeard : Type 0 where
  pub begun : heard_by true (task_rows (recordless_task ∷ [])) [] [] ≡ ended 0 Completed ∷ []
  pub restarted : heard_by false (task_rows (recordless_task ∷ [])) [] [] ≡ []

-- of a rollback nothing is heard
abbrev pub RolledBack : Type 0
RolledBack = heard_of (attempt_of retried_task) ≡ []

-- WHICH CALLS ARE TAKEN

abbrev pub one : AnalyzerCall
one = ended 0 Completed

abbrev pub two : AnalyzerCall
two = ended 1 Completed

abbrev pub three : AnalyzerCall
three = ended 2 Completed

abbrev pub three_calls : List AnalyzerCall
three_calls = one ∷ two ∷ three ∷ []

pub record CallsTaken : Type 0 where
  pub all : AreTaken three_calls None (map well three_calls)
  pub up_to_a_fault : AreTaken three_calls (Some class_e) (well one ∷ faulted two class_e ∷ [])
  pub last_faulted : AreTaken three_calls (Some class_e) (well one ∷ well two ∷ faulted three class_e ∷ [])
  pub not_past_a_fault : AreTaken three_calls (Some class_e) (well one ∷ faulted two class_e ∷ well three ∷ []) → ⊥
  pub not_one_short : AreTaken three_calls None (well one ∷ well two ∷ []) → ⊥
  pub not_one_more : AreTaken (one ∷ []) None (well one ∷ well two ∷ []) → ⊥
  pub not_exchanged : AreTaken (one ∷ two ∷ []) None (well two ∷ well one ∷ []) → ⊥

-- a list of calls of which the second fails, and one that would fail later
pub record ListedCalls : Type 0 where
  pub second : answered_calls_of (record { calls = one ∷ two ∷ []; fault = Some (1, class_e) }) ≡ well one ∷ faulted two class_e ∷ []
  pub later : answered_calls_of (record { calls = one ∷ two ∷ []; fault = Some (2, class_e) }) ≡ well one ∷ well two ∷ []
  pub never : answered_calls_of (record { calls = one ∷ two ∷ []; fault = None }) ≡ well one ∷ well two ∷ []

-- THE REDUCER'S CALLS, in all cases: an earlier run's results stay or are discarded
pub record ReducerCalls : Type 0 where
  pub begin_fails : (overrides : Bool) (stands : Status) (fails : Bool) → reducer_calls false overrides stands fails ≡ Begin ∷ []
  pub completed : reducer_calls true false Completed false ≡ Begin ∷ Before ∷ After end.Commit ∷ []
  pub before_fails : reducer_calls true false Completed true ≡ Begin ∷ Before ∷ Rollback ∷ After end.Rollback ∷ []
  pub stopped : (fails : Bool) → reducer_calls true false Stopped fails ≡ Begin ∷ Rollback ∷ After end.Rollback ∷ []
  pub failed : (fails : Bool) → reducer_calls true false Failed fails ≡ Begin ∷ Rollback ∷ After end.Rollback ∷ []
  pub discarding : reducer_calls true true Completed false ≡ Begin ∷ Rollback ∷ Before ∷ After end.Commit ∷ []

-- whether it was `before_completion` that was answered with a fault
pub record ReducerFaults : Type 0 where
  pub before : before_failed (well Begin ∷ faulted Before class_e ∷ []) ≡ true
  pub not_before : before_failed (well Begin ∷ well Before ∷ faulted (After end.Commit) class_e ∷ []) ≡ false
