-- The works of a round, and the attempts that come of them.
use Rattle.std.specs.Prelude.{◌≡◌, List, All}
use Rattle.std.specs.List.Sorted.{IsPermutation, IsNonDecreasingBy}
use Rattle.jb_rules.specs.declared.row.RowState.TheVariants.{Waiting}
use Rattle.jb_chunk.specs.TaskState.{TaskState, IsReady}
use Rattle.jb_chunk.specs.Attempt.{IsAttempt, ending_of}
use Rattle.jb_chunk.specs.declared.outcome.Done.{Done}
use Rattle.jb_workers.specs.declared.worker.lane_work.Work.{Work}

-- a task whose next chunk may be started, rollbacks aside: its row waits, and reader and writer are at its checkpoint
pub record CanBegin (task : TaskState) : Type 0 where
  pub waiting : task.row.state ≡ Waiting
  pub ready : IsReady task

-- each task of the works can begin its next chunk
abbrev pub AllCanBegin : {T : Type 0} → (T → TaskState) → List (Work T) → Type 0
AllCanBegin task_state works = All (λ work. CanBegin (task_state work.task)) works

-- the task ended so: by its attempt, and it is ready again
pub record IsAttemptOf {T : Type 0} (task_state : T → TaskState) (task : T) (done : Done T) : Type 0 where
  pub attempt : IsAttempt (task_state task) (ending_of (task_state done.task) done.outcome done.values.items done.again)
  pub ready : IsReady (task_state done.task)

-- the works come by rising partition
abbrev pub RiseByPartition : {T : Type 0} → (T → TaskState) → List (Work T) → Type 0
RiseByPartition task_state works = IsNonDecreasingBy (λ work. (task_state work.task).partition) works

-- the same works by rising partition
pub record IsOrderOf {T : Type 0} (task_state : T → TaskState) (works ordered : List (Work T)) : Type 0 where
  pub each : IsPermutation works ordered
  pub rising : RiseByPartition task_state ordered
