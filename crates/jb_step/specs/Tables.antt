-- The table of a step: a place for each partition, by its number. The place holds the partition's task. It is empty if the partition was
-- finished when the step began.
use Rattle.std.specs.Prelude.{ℕ, ◌+◌, ◌≡◌, nat_eq, Bool, if◌then◌else◌, Option, Some, None, List, [], ◌∷◌, find, map, slice_index_or}
use Rattle.std.specs.List.{enumerate_from, filter_map}
use Rattle.std.specs.Option.{IfSome}
use Rattle.jb_rules.specs.declared.row.Row.{Row}
use Rattle.jb_chunk.specs.TaskState.{TaskState}

abbrev pub Table : Type 0
Table = List (Option TaskState)

-- the partition's task, if it has one
abbrev pub held_at : Table → ℕ → Option TaskState
held_at table p = slice_index_or table p None

-- the tasks in these places, by the numbers of the places
abbrev pub held_in : {T : Type 0} → List (Option T) → List T
held_in places = filter_map (λ place. place) places

-- a place whose task passes the test, else an empty one
abbrev pub keep_if : (TaskState → Bool) → Option TaskState → Option TaskState
keep_if test None = None
keep_if test (Some t) = if test t then Some t else None

-- each task is in the place of its partition; the first place is that of partition `first`
abbrev pub ArePlaced : (first : ℕ) → Table → Type 0
ArePlaced first [] = Unit {0}
ArePlaced first (place ∷ table) = IfSome place (λ t. t.partition ≡ first) × ArePlaced (first + 1) table

-- tasks in the places of their partitions, one place for each row
abbrev pub in_places : List Row → List TaskState → Table
in_places rows ts = map (λ n. find (λ t. nat_eq t.partition n.0) ts) (enumerate_from 0 rows)
