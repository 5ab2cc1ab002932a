-- Places that are gone through up to a task that hasn't ended.
use Rattle.std.proofs.Common.{◌≡◌, Bool, true, false, ◌&&◌, List, [], ◌∷◌, Option, Some, None, refl}
use Rattle.jb_chunk.specs.TaskState.{TaskState}
use Rattle.jb_rules.specs.States.{has_ended}
use Rattle.jb_step.specs.Alone.{have_ended}
use Rattle.jb_step.specs.Tables.{held_in}
use Rattle.jb_step.specs.inside.table.Places.{table_in}

abbrev pub ended_in : {T : Type 0} → (T → TaskState) → List (Option T) → Bool
ended_in task_state places = have_ended (held_in (table_in task_state places))

and-true : (b r : Bool) → (b && true) ≡ true → (b && r) ≡ r
and-true true r e = refl
and-true false r e = absurd (cc e)

and-false : (b r : Bool) → (b && true) ≡ false → (b && r) ≡ false
and-false true r e = absurd (cc e)
and-false false r e = refl

pub ended-here : {T : Type 0} (task_state : T → TaskState) (place : Option T) (places : List (Option T)) → ended_in task_state (place ∷ []) ≡ true → ended_in task_state (place ∷ places) ≡ ended_in task_state places
ended-here task_state None places e = refl
ended-here task_state (Some t) places e = and-true (has_ended (task_state t).row.state) (ended_in task_state places) e

pub goes-on-here : {T : Type 0} (task_state : T → TaskState) (place : Option T) (places : List (Option T)) → ended_in task_state (place ∷ []) ≡ false → ended_in task_state (place ∷ places) ≡ false
goes-on-here task_state None places e = absurd (cc e)
goes-on-here task_state (Some t) places e = and-false (has_ended (task_state t).row.state) (ended_in task_state places) e
