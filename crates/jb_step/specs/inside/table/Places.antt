-- The places in which a step holds its tasks, as its table. The tasks of a round are taken out of their places and put back.
use Rattle.std.specs.Prelude.{Option, Some, None, List, [], ◌∷◌, map, option_map, slice_index_or, slice_set}
use Rattle.std.specs.List.{cons_option}
use Rattle.jb_cert.specs.Lawful.{Pair}
use Rattle.jb_chunk.specs.TaskState.{TaskState}
use Rattle.jb_chunk.specs.declared.outcome.Done.{Done}
use Rattle.jb_step.specs.Tables.{Table}

abbrev pub table_in : {T : Type 0} → (T → TaskState) → List (Option T) → Table
table_in task_state places = map (option_map task_state) places

-- the tasks of the set's partitions are taken out, one after another: these, and the places that they leave
abbrev pub picked : {T : Type 0} → List Pair → List (Option T) → List T
picked [] places = []
picked (pair ∷ set) places = cons_option (slice_index_or places pair.0 None) (picked set (slice_set places pair.0 None))

abbrev pub emptied : {T : Type 0} → List Pair → List (Option T) → List (Option T)
emptied [] places = places
emptied (pair ∷ set) places = emptied set (slice_set places pair.0 None)

-- the tasks of Dones are put into their places, one after another
abbrev pub filled : {T : Type 0} → (T → TaskState) → List (Done T) → List (Option T) → List (Option T)
filled task_state [] places = places
filled task_state (done ∷ dones) places = filled task_state dones (slice_set places (task_state done.task).partition (Some done.task))
