-- A round of one slot: its task is taken out of its place, and put back.
use Rattle.std.proofs.Common.{◌≡◌, Bool, true, false, ◌||◌, List, [], ◌∷◌, ◌++◌, map, Option, None, refl, ap, sym, ◌∙◌, append-nil, arith}
use Rattle.std.proofs.lemmas.Bool.{and_parts}
use Rattle.std.specs.Prelude.{is_some, option_map, slice_index_or}
use Rattle.std.specs.List.{cons_option}
use Rattle.jb_cert.specs.Lawful.{Pair}
use Rattle.jb_cert.specs.Rising.{RiseFrom}
use Rattle.jb_chunk.specs.TaskState.{TaskState}
use Rattle.jb_chunk.specs.declared.outcome.Done.{Done}
use Rattle.jb_collect.specs.Heard.{collected_calls, ended_calls, endings_of, heard_in}
use Rattle.jb_step.specs.Tables.{ArePlaced, held_at}
use Rattle.jb_step.specs.rounds.Rounds.{CanRun, tasks_in}
use Rattle.jb_step.specs.inside.table.Places.{table_in}
use Rattle.jb_step.proofs.table.Held.{at-map}
use Rattle.jb_step.proofs.table.Placing.{firsts, taken-are}

-- one pair alone rises
pub one-rises : (pair : Pair) → RiseFrom 0 (firsts (pair ∷ []))
one-rises pair = (omega arith, tt)

module _ {T : Type 0} (task_state : T → TaskState) (pair : Pair) where
  -- what stands in the pair's place is what its round takes
  pub taken-one : (os : List (Option T)) (o : Option T) → ArePlaced 0 (table_in task_state os) → slice_index_or os pair.0 None ≡ o → map task_state (cons_option o []) ≡ tasks_in (pair ∷ []) (table_in task_state os)
  taken-one os o placed is = sym (ap (λ (o : Option T). map task_state (cons_option o [])) is) ∙ taken-are task_state (pair ∷ []) os (one-rises pair) placed

  -- there is a task, where the round can be run
  pub has-one : (os : List (Option T)) → CanRun (pair ∷ []) (table_in task_state os) → slice_index_or os pair.0 None ≡ None → ⊥
  has-one os can none =
      let some = (and_parts (is_some (held_at (table_in task_state os) pair.0)) true can.tasks).0 in
      let not : is_some (held_at (table_in task_state os) pair.0) ≡ false = ap is_some (at-map task_state os pair.0 ∙ ap (option_map task_state) none) in
      let both : true ≡ false = sym some ∙ not in
      cc

pub or-false : (b : Bool) → (b || false) ≡ b
or-false true = refl
or-false false = refl

-- what is heard of one attempt
pub heard-one : {T : Type 0} (task_state : T → TaskState) (done : Done T) → collected_calls (task_state done.task).partition done.values.items ++ ended_calls (task_state done.task).partition (task_state done.task).row.state ≡ heard_in (endings_of task_state (done ∷ []))
heard-one task_state done = sym (append-nil _)
