-- What a worker's turns of the lock say of its work: its Begin first, and last the event of what came of it.
use Rattle.std.specs.Prelude.{◌≡◌, ◌⊎◌, IsTrue, Some, Result, MatchResult}
use Rattle.jb_chunk.specs.TaskState.{TaskState}
use Rattle.jb_chunk.specs.declared.outcome.Done.{Done}
use Rattle.jb_repo.specs.declared.events.Event.TheVariants.{Begin}
use Rattle.jb_repo.specs.declared.refused.Refused.{Refused}
use Rattle.jb_repo.specs.declared.refused.Refused.TheVariants.{Full}
use Rattle.jb_repo.specs.Table.{is_at_limit}
use Rattle.jb_workers.specs.declared.round.error.RoundError.{RoundError}
use Rattle.jb_workers.specs.declared.round.error.RoundError.TheVariants as error
use Rattle.jb_workers.specs.declared.worker.lane_work.Work.{Work}
use Rattle.jb_workers.specs.Events.{event_of}
use Rattle.jb_workers.specs.Lock.{IsAccepted, IsRefused}
use Rattle.jb_workers.specs.Works.{IsAttemptOf}

-- the table accepted the work's Begin
abbrev pub IsBegun : {T : Type 0} → (T → TaskState) → Work T → Type 0
IsBegun task_state work = IsAccepted (Begin work.lane (task_state work.task).partition)

-- the table accepted the work's Begin, and the event of what came of it
pub record IsTurnEntered {T : Type 0} (task_state : T → TaskState) (work : Work T) (done : Done T) : Type 0 where
  pub begun : IsBegun task_state work
  pub ended : IsAccepted (event_of work.lane done.outcome (task_state done.task).row.written done.again)

-- the work was done: its task was attempted, and what came of it was entered
pub record IsDoneOf {T : Type 0} (task_state : T → TaskState) (work : Work T) (done : Done T) : Type 0 where
  pub attempted : IsAttemptOf task_state work.task done
  pub entered : IsTurnEntered task_state work done

-- the task was attempted, and the table refused the event of what came of it
pub record IsEndRefused {T : Type 0} (task_state : T → TaskState) (work : Work T) (refused : Refused) : Type 0 where
  pub done : Done T
  pub attempted : IsAttemptOf task_state work.task done
  pub refuses : IsRefused (event_of work.lane done.outcome (task_state done.task).row.written done.again) refused

-- the task's row has as many rollbacks as there may be, or no room for the repeats in place of one more chunk
abbrev pub IsAtLimit : TaskState → Type 0
IsAtLimit task = IsTrue (is_at_limit (Some task.row))

-- the work was started, and has no attempt in the history: its task was at its limit, or its outcome was refused
pub record IsGivenUp {T : Type 0} (task_state : T → TaskState) (work : Work T) (refused : Refused) : Type 0 where
  pub begun : IsBegun task_state work
  pub cause : (IsAtLimit (task_state work.task) × (refused ≡ Full)) ⊎ IsEndRefused task_state work refused

-- why a work has no attempt in the history: its Begin was refused, or it was started and given up
pub record IsKeptOut {T : Type 0} (task_state : T → TaskState) (work : Work T) (why : RoundError) : Type 0 where
  pub refused : Refused
  pub is : why ≡ error.Refused refused
  pub cause : IsRefused (Begin work.lane (task_state work.task).partition) refused ⊎ IsGivenUp task_state work refused

-- what came of a work
abbrev pub MeetsWork : {T : Type 0} → (T → TaskState) → Work T → Result (Done T) RoundError → Type 0
MeetsWork task_state work result =
    MatchResult result (λ done. IsDoneOf task_state work done) (λ why. IsKeptOut task_state work why)
