-- What holds of a task's attempts, wherever they lead.
use Rattle.std.specs.Prelude.{◌≡◌, ◌≤◌, ◌<◌, ◌+◌, ◌-◌, ◌↔◌, ◌⊎◌, true, List, ◌∷◌, length}
use Rattle.jb_base.specs.declared.range.Range.{Range}
use Rattle.jb_plan.specs.Blocks.{blocks}
use Rattle.jb_rules.specs.declared.counts.Counts.{Counts}
use Rattle.jb_rules.specs.declared.row.RowState.TheVariants as state
use Rattle.jb_base.specs.Limits.{max_rollbacks, max_in_place}
use Rattle.jb_rules.specs.Counts.{IsDelta}
use Rattle.jb_rules.specs.Rows.{repeated_row}
use Rattle.jb_rules.specs.States.{has_ended}
use Rattle.jb_chunk.specs.declared.outcome.Outcome.TheVariants.{Committed}
use Rattle.jb_chunk.specs.Alone.{IsRunOf, IsOnTheWay, IsAlone, retries_in, retries_left, attempts_left}
use Rattle.jb_chunk.specs.Attempt.{AttemptEnd, IsAttempt, attempt_of, ending_by, end_of, block_of, after_repeats, again_of}
use Rattle.jb_chunk.specs.Plain.{IsCalm, IsPlain}
use Rattle.jb_chunk.specs.TaskState.{TaskState, IsReady, reopened}

-- ONE END

-- a task that runs alone ends in one place
abbrev pub OneEnd : Type 0
OneEnd = (t one other : TaskState) → IsAlone t one → IsAlone t other → one ≡ other

-- and where no call in its range fails, that is the place of its Plain run
abbrev pub CalmRunsArePlain : Type 0
CalmRunsArePlain =
    (t s : TaskState) → IsReady t → (t.row.state ≡ state.Waiting) ⊎ (t.row.state ≡ state.Finished)
    → IsCalm t.artifacts t.row.at t.row.hi → IsAlone t s → IsPlain t s

-- THE WAY THERE

-- no run has more attempts than there are retries and records left
abbrev pub RunsAreShort : Type 0
RunsAreShort = (t s : TaskState) (attempts : List AttemptEnd) → IsReady t → IsRunOf t attempts s → length attempts ≤ attempts_left t

-- a row's retries grow by those of the attempts: the repeats in place and the rollbacks together, no more than there are
-- retries left
pub record HasRetries (t s : TaskState) (attempts : List AttemptEnd) : Type 0 where
  pub counted : s.row.retries ≡ t.row.retries + retries_in attempts
  pub few : retries_in attempts ≤ retries_left t

abbrev pub RetriesAreFew : Type 0
RetriesAreFew = (t s : TaskState) (attempts : List AttemptEnd) → IsRunOf t attempts s → HasRetries t s attempts

-- two ways, one after the other, are one
abbrev pub WaysJoin : Type 0
WaysJoin = (t between s : TaskState) → IsOnTheWay t between → IsOnTheWay between s → IsOnTheWay t s

-- a way to an end is a run alone
abbrev pub WaysEnd : Type 0
WaysEnd = (t s : TaskState) → IsReady t → IsOnTheWay t s → has_ended s.row.state ≡ true → IsAlone t s

-- wherever its attempts lead, a task is ready, unless its rollbacks or its repeats are beyond their limit
abbrev pub TasksStayReady : Type 0
TasksStayReady = (t s : TaskState) → IsReady t → IsOnTheWay t s → s.row.counts.rollback ≤ max_rollbacks → s.row.in_place ≤ max_in_place → IsReady s

-- A task at its checkpoint: its reader is there, and as many results are written as its row says. While it waits its next
-- chunk has a record and is in its range.
pub record IsAtCheckpoint (t : TaskState) : Type 0 where
  pub at_to : t.row.at ≤ t.row.hi
  pub place : t.artifacts.reader.place ≡ t.row.at
  pub count : length t.artifacts.writer.written ≡ t.row.written
  pub chunk : t.row.state ≡ state.Waiting → (t.row.at < (block_of t).hi) × ((block_of t).hi ≤ t.row.hi)

-- and however many its rollbacks are, it is at its checkpoint
abbrev pub TasksStandAtCheckpoints : Type 0
TasksStandAtCheckpoints = (t s : TaskState) → IsReady t → IsOnTheWay t s → IsAtCheckpoint s

-- RESUMING

-- resumed where some of its attempts left it, a task is where it was
abbrev pub SamePlace : Type 0
SamePlace = (t s : TaskState) → IsReady t → IsOnTheWay t s → reopened s ≡ s

-- and alone it ends where it would have ended without the break, and nowhere else
abbrev pub SameEnd : Type 0
SameEnd = (t s end : TaskState) → IsReady t → IsOnTheWay t s → IsAlone t end ↔ IsAlone (reopened s) end

-- ONE ATTEMPT

-- the chunks that are left of a task's range
abbrev pub blocks_of : TaskState → List Range
blocks_of t = blocks t.row.at t.row.redo t.row.hi t.item_count

-- wherever a task's attempts led it, an attempt that commits takes just the first of the chunks that are left
abbrev pub CommitsTakeOneChunk : Type 0
CommitsTakeOneChunk =
    (t s : TaskState) (delta : Counts) → IsReady t → IsOnTheWay t s → s.row.state ≡ state.Waiting → (attempt_of s).outcome ≡ Committed delta
    → blocks_of s ≡ block_of s ∷ blocks_of (attempt_of s).task

-- and its counts are those of a committed chunk with as many records
abbrev pub CommitsHaveDeltas : Type 0
CommitsHaveDeltas =
    (t : TaskState) (e : AttemptEnd) (delta : Counts) → IsReady t → t.row.state ≡ state.Waiting → IsAttempt t e → e.outcome ≡ Committed delta
    → IsDelta ((block_of t).hi - t.row.at) delta

-- the repeats of a task's next block are so many retries of its row, and change nothing else of it
abbrev pub RepeatsAreRetries : Type 0
RepeatsAreRetries = (t : TaskState) → (after_repeats t).row ≡ repeated_row t.row (again_of t)

-- NO REPEATS

-- If `no_rollback` has no class, no call is repeated in place. The attempt is that of the block as it is, which ends by its
-- first fault that isn't skipped,
abbrev pub AttemptsWithoutRepeats : Type 0
AttemptsWithoutRepeats = (t : TaskState) → t.rules.no_rollback ≡ 0 → attempt_of t ≡ ending_by t 0 (end_of t)

-- and however an attempt ended, the row's number of repeats is what it was
abbrev pub RepeatsStay : Type 0
RepeatsStay = (t : TaskState) (e : AttemptEnd) → t.rules.no_rollback ≡ 0 → IsAttempt t e → (e.again ≡ 0) × (e.task.row.in_place ≡ t.row.in_place)
