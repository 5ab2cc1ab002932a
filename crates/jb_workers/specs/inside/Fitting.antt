-- That what comes of an attempt has a place in an event, which keeps its numbers in 32 bits.
use Rattle.std.specs.Prelude.{ℕ, ◌≤◌}
use Rattle.jb_base.specs.Limits.{max_records, max_retry_limit}
use Rattle.jb_chunk.specs.declared.outcome.Outcome.{Outcome}
use Rattle.jb_chunk.specs.declared.outcome.Outcome.TheVariants.{Committed, Rolled, Failed, NoMemory}
use Rattle.jb_chunk.specs.Attempt.{AttemptEnd, IsAttempt}
use Rattle.jb_chunk.specs.TaskState.{IsReady}
use Rattle.jb_repo.specs.Deltas.{FitDelta}
use Rattle.jb_chunk.specs.TaskState.{TaskState}
use Rattle.jb_workers.specs.Works.{CanBegin}

-- what a commit adds, if it is one, is a delta
abbrev pub HasFittingDelta : Outcome → Type 0
HasFittingDelta (Committed delta) = FitDelta delta
HasFittingDelta (Rolled class) = Unit {0}
HasFittingDelta (Failed class) = Unit {0}
HasFittingDelta NoMemory = Unit {0}

-- and there are no more results than a step has records, nor more repeats than a chunk may make
pub record FitEvent (outcome : Outcome) (written again : ℕ) : Type 0 where
  pub counts : HasFittingDelta outcome
  pub results : written ≤ max_records
  pub repeats : again ≤ max_retry_limit

-- so it is with each attempt of a task that may begin its chunk
abbrev pub AttemptsFit : Type 0
AttemptsFit =
    (t : TaskState) (e : AttemptEnd) → CanBegin t → IsAttempt t e → IsReady e.task → e.again ≤ max_retry_limit
    → FitEvent e.outcome e.task.row.written e.again
