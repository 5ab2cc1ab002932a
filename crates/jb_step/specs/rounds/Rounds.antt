-- Rounds over the table of a step. A round is a set of chunks, at most one of each partition. Rounds are listed with the first one first.
use Rattle.std.specs.Prelude.{◌≡◌, ◌⊎◌, ℕ, nat_eq, Bool, true, false, not, if◌then◌else◌, is_some, List, [], ◌∷◌, ◌++◌, map, option_map, filter}
use Rattle.std.specs.List.{list_any, list_all}
use Rattle.jb_rules.specs.States.{is_waiting}
use Rattle.jb_cert.specs.Lawful.{Pair}
use Rattle.jb_chunk.specs.declared.outcome.Outcome.{Outcome}
use Rattle.jb_chunk.specs.declared.outcome.Outcome.TheVariants.{Committed}
use Rattle.jb_chunk.specs.Attempt.{AttemptEnd, attempt_of}
use Rattle.jb_chunk.specs.TaskState.{TaskState}
use Rattle.jb_step.specs.Tables.{Table, held_in, held_at}

abbrev pub is_commit : Outcome → Bool
is_commit (Committed delta) = true
is_commit _ = false

-- the set has a chunk of the partition
abbrev pub has_partition : List Pair → ℕ → Bool
has_partition set p = list_any (λ pair. nat_eq pair.0 p) set

-- the tasks of the set's partitions
abbrev pub tasks_in : List Pair → Table → List TaskState
tasks_in set table = filter (λ t. has_partition set t.partition) (held_in table)

-- the attempts of a round, by rising partition
abbrev pub attempts_in : List Pair → Table → List AttemptEnd
attempts_in set table = map attempt_of (tasks_in set table)

-- a task after a round: its attempt, if the set has its partition, else as it was
abbrev pub after_in : List Pair → TaskState → TaskState
after_in set t = if has_partition set t.partition then (attempt_of t).task else t

-- the table after it, place by place
abbrev pub after_round : List Pair → Table → Table
after_round set table = map (option_map (after_in set)) table

-- each partition of the set has a task, and each of these tasks waits
pub record CanRun (set : List Pair) (table : Table) : Type 0 where
  pub tasks : list_all (λ pair. is_some (held_at table pair.0)) set ≡ true
  pub waiting : list_all (λ t. is_waiting t.row.state) (tasks_in set table) ≡ true

-- some attempt is rolled back or fails
abbrev pub breaks_in : List AttemptEnd → Bool
breaks_in es = list_any (λ e. not (is_commit e.outcome)) es

-- some partition is rolled back or fails in the round
abbrev pub breaks : List Pair → Table → Bool
breaks set table = breaks_in (attempts_in set table)

-- SEVERAL ROUNDS, one after another

-- the table after them
abbrev pub after_rounds : List (List Pair) → Table → Table
after_rounds [] table = table
after_rounds (set ∷ later) table = after_rounds later (after_round set table)

-- their attempts
abbrev pub attempts_of : List (List Pair) → Table → List AttemptEnd
attempts_of [] table = []
attempts_of (set ∷ later) table = attempts_in set table ++ attempts_of later (after_round set table)

-- each can be run, and none but the last has a rollback or a failure
abbrev pub AreRun : List (List Pair) → Table → Type 0
AreRun [] table = Unit {0}
AreRun (set ∷ later) table = CanRun set table × ((later ≡ []) ⊎ (breaks set table ≡ false)) × AreRun later (after_round set table)

-- none of them has a rollback or a failure, the last one neither
abbrev pub GoQuietly : List (List Pair) → Table → Type 0
GoQuietly rounds table = breaks_in (attempts_of rounds table) ≡ false
