-- What a run of a step is to one partition: no other partition counts.
use Rattle.std.specs.Prelude.{◌≡◌, ℕ, nat_eq, Some, List, ◌++◌, filter, map}
use Rattle.jb_chunk.specs.Alone.{IsRunOf}
use Rattle.jb_chunk.specs.Attempt.{AttemptEnd}
use Rattle.jb_chunk.specs.TaskState.{TaskState}
use Rattle.jb_collect.specs.Heard.{calls_about, heard_first, heard_in, heard_last}
use Rattle.jb_step.specs.callbacks.Heard.{heard}
use Rattle.jb_step.specs.rounds.Runs.{PlanRun, ArePlanRuns, all_attempts, table_after}
use Rattle.jb_step.specs.preparing.Setup.{Setup}
use Rattle.jb_step.specs.Tables.{ArePlaced, Table, held_in, keep_if, held_at}

-- the partition's attempts
abbrev pub attempts_at : ℕ → List AttemptEnd → List AttemptEnd
attempts_at p es = filter (λ e. nat_eq e.task.partition p) es

-- the table with no task but the partition's
abbrev pub alone_at : ℕ → Table → Table
alone_at p table = map (keep_if (λ t. nat_eq t.partition p)) table

-- A partition's attempts among all are those of the same rounds on its task alone, and its task is left as these leave it
abbrev pub OthersDontCount : Type 0
OthersDontCount =
    (p : ℕ) (start : Table) (plans : List PlanRun)
    → (attempts_at p (all_attempts plans start) ≡ all_attempts plans (alone_at p start))
    × (alone_at p (table_after plans start) ≡ table_after plans (alone_at p start))

-- What the analyzer hears of a partition. At first: that it is empty. Then: each of its attempts in order, the last of which may end it. At
-- last: that it is stopped, if it is left unfinished.
abbrev pub HeardOfPartition : Type 0
HeardOfPartition =
    (p : ℕ) (s : Setup) (start : Table) (plans : List PlanRun)
    → calls_about p (heard s start plans)
    ≡ calls_about p (heard_first s.is_fresh s.rows)
    ++ heard_in (attempts_at p (all_attempts plans start)) ++ heard_last (held_in (alone_at p (table_after plans start)))

-- and these attempts are those that the partition makes alone from its task
abbrev pub AttemptsAreAlone : Type 0
AttemptsAreAlone =
    (s : Setup) (start : Table) (plans : List PlanRun) (p : ℕ) (t : TaskState)
    → ArePlaced 0 start → ArePlanRuns s start plans → held_at start p ≡ Some t
    → (left : TaskState) × (held_at (table_after plans start) p ≡ Some left) × IsRunOf t (attempts_at p (all_attempts plans start)) left
