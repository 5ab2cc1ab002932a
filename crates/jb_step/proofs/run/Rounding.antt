-- A round is one attempt of each task that was taken out of its place.
use Rattle.std.proofs.Common.{◌≡◌, ℕ, ◌+◌, Bool, List, Option, length, ap, ◌∙◌, refl, subst}
use Rattle.jb_cert.specs.Lawful.{Pair}
use Rattle.jb_cert.specs.declared.notes.PlanNote.{PlanNote}
use Rattle.jb_chunk.specs.Attempt.{AttemptEnd}
use Rattle.jb_chunk.specs.TaskState.{TaskState}
use Rattle.jb_chunk.specs.declared.outcome.Done.{Done}
use Rattle.jb_collect.specs.Heard.{endings_of, heard_in}
use Rattle.jb_step.specs.Alone.{AreReady}
use Rattle.jb_step.specs.Tables.{held_in}
use Rattle.jb_step.specs.rounds.Rounds.{breaks_in}
use Rattle.jb_step.specs.inside.rounds.Round.{IsRound}
use Rattle.jb_step.specs.inside.callbacks.Telling.{HearsMore, Moment}
use Rattle.jb_step.specs.inside.table.Places.{table_in}
use Rattle.jb_step.proofs.table.Placing.{IsPutBack}

-- the Dones of the set's tasks were put back, counted, judged and told
pub round-is : {T : Type 0} (task_state : T → TaskState) (set : List Pair) (before after : List (Option T)) (ds : List (Done T)) → IsPutBack task_state set before ds after
    → (m n : Moment) (rounds more tried again : ℕ) (notes : List PlanNote) (broke : Bool) → AreReady (held_in (table_in task_state before)) → broke ≡ breaks_in (endings_of task_state ds)
    → HearsMore m (heard_in (endings_of task_state ds)) n → more ≡ rounds + 1 → again ≡ tried + length ds
    → IsRound set broke (record { moment = m; table = table_in task_state before; rounds = rounds; attempts = tried; notes = notes }) (record { moment = n; table = table_in task_state after; rounds = more; attempts = again; notes = notes })
round-is task_state set before after ds back m n rounds more tried again notes broke ready broke_is heard one all = record {
  left = record {
    table_is = back.table_is;
    rounds_are = one;
    attempts_are = all ∙ ap (λ k. tried + k) back.number;
    heard_is = subst (λ (es : List AttemptEnd). HearsMore m (heard_in es) n) back.ends heard;
  };
  ready = back.ready ready;
  broke_is = broke_is ∙ ap breaks_in back.ends;
  notes_are = refl;
}
