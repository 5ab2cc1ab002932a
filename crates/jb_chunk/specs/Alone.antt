-- Run alone: a partition's attempts, by itself, to its end.
use Rattle.std.specs.Prelude.{ℕ, ◌≡◌, ◌≤◌, ◌<◌, ◌+◌, ◌-◌, Bool, true, false, List, [], ◌∷◌, length, ⊤}
use Rattle.jb_rules.specs.States.{has_ended}
use Rattle.jb_rules.specs.declared.row.RowState.TheVariants as state
use Rattle.jb_chunk.specs.declared.alone.AloneEnd.{AloneEnd}
use Rattle.jb_chunk.specs.declared.alone.AloneEnd.TheVariants.{Finished, Failed, NoMemory}
use Rattle.jb_chunk.specs.declared.outcome.Outcome.{Outcome}
use Rattle.jb_chunk.specs.declared.outcome.Outcome.TheVariants as outcome
use Rattle.jb_chunk.specs.Entries.{one_if}
use Rattle.jb_chunk.specs.Attempt.{AttemptEnd, attempt_of, IsUnfinished}
use Rattle.jb_chunk.specs.Plain.{IsCalm, IsPlain}
use Rattle.jb_chunk.specs.TaskState.{TaskState}

-- these attempts, one after another, lead a task from one place to another: each is the attempt of the task as it was there,
-- and it waited there
abbrev pub IsRunOf : TaskState → List AttemptEnd → TaskState → Type 0
IsRunOf t [] s = s ≡ t
IsRunOf t (e ∷ es) s = (t.row.state ≡ state.Waiting) × (e ≡ attempt_of t) × IsRunOf e.task es s

-- some of the task's attempts lead there
pub record IsOnTheWay (t s : TaskState) : Type 0 where
  pub attempts : List AttemptEnd
  pub run : IsRunOf t attempts s

-- how often a chunk of the task may still be retried
abbrev pub retries_left : TaskState → ℕ
retries_left t = t.rules.retry_limit - t.row.retries

abbrev pub is_rolled : Outcome → Bool
is_rolled (outcome.Rolled class) = true
is_rolled _ = false

-- the retries of an attempt: the calls that it repeated in place, and one more if its chunk was rolled back
abbrev pub retries_of : AttemptEnd → ℕ
retries_of e = e.again + one_if (is_rolled e.outcome)

-- those of some attempts
abbrev pub retries_in : List AttemptEnd → ℕ
retries_in [] = 0
retries_in (e ∷ es) = retries_of e + retries_in es

-- each attempt uses up a retry, or a record at least, or is the last
abbrev pub attempts_left : TaskState → ℕ
attempts_left t = retries_left t + (t.row.hi - t.row.at)

-- The task's attempts alone lead to this place, where it is finished or failed. No other partition, no thread and no round
-- is named, so the place doesn't depend on them.
pub record IsAlone (t s : TaskState) : Type 0 where
  pub attempts : List AttemptEnd
  pub run : IsRunOf t attempts s
  pub ended : has_ended s.row.state ≡ true
  pub few : length attempts ≤ attempts_left t

-- some attempts alone were made, which left the task waiting, and then one that found no memory
pub record IsBroken (t s : TaskState) : Type 0 where
  pub attempts : List AttemptEnd
  pub last : TaskState
  pub run : IsRunOf t attempts last
  pub waiting : last.row.state ≡ state.Waiting
  pub few : length attempts < attempts_left t
  pub unfinished : IsUnfinished last s

-- how a task ends that runs alone
abbrev pub EndsAlone : TaskState → AloneEnd → TaskState → Type 0
EndsAlone t Finished s = IsAlone t s × (s.row.state ≡ state.Finished)
EndsAlone t Failed s = IsAlone t s × (s.row.state ≡ state.Failed)
EndsAlone t NoMemory s = IsBroken t s

-- if no call in the range fails and there is memory, the task does what its Plain run does
abbrev pub KeepsPlain : TaskState → AloneEnd → TaskState → Type 0
KeepsPlain t Finished s = IsCalm t.artifacts t.row.at t.row.hi → IsPlain t s
KeepsPlain t Failed s = IsCalm t.artifacts t.row.at t.row.hi → ⊥
KeepsPlain t NoMemory s = ⊤
