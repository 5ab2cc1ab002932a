-- What is told row after row, or place after place.
use Rattle.std.proofs.Common.{◌≡◌, ℕ, ◌+◌, ◌<◌, ◌≤◌, Bool, true, false, cond, List, [], ◌∷◌, ◌++◌, length, get_or, drop, map, Option, Some, None, refl, ap, sym, ◌∙◌, subst}
use Rattle.std.proofs.lemmas.List.{at_drop_all, drop_more}
use Rattle.std.specs.Prelude.{◌==◌, filter, is_some}
use Rattle.std.specs.List.{enumerate_from}
use Rattle.jb_base.specs.declared.class.ClassId.{ClassId}
use Rattle.jb_rules.specs.declared.row.Row.{Row}
use Rattle.jb_rules.specs.States.{is_waiting}
use Rattle.jb_chunk.specs.TaskState.{TaskState}
use Rattle.jb_collect.specs.declared.calls.AnalyzerCall.{AnalyzerCall}
use Rattle.jb_collect.specs.Heard.{heard_last}
use Rattle.jb_collect.specs.Laws.{TakenOneAfterAnother, NoneAfterAFault}
use Rattle.jb_collect.specs.AnsweredCalls.{AnsweredCall, HasTaken}
use Rattle.jb_collect.proofs.Taking.{none_taken}
use Rattle.jb_step.specs.Tables.{held_in}
use Rattle.jb_step.specs.inside.table.Places.{table_in}
use Rattle.jb_step.specs.inside.callbacks.Telling.{empties}

by-test : {X Y : Type 0} (b : Bool) (f : X → Y) (x : X) (xs : List X) → map f (cond b (x ∷ xs) xs) ≡ map f (cond b (x ∷ []) []) ++ map f xs
by-test true f x xs = refl
by-test false f x xs = refl

-- what is told of the first row, and then of the others
pub empties-one : (k : ℕ) (row : Row) (rows : List Row) → empties k (row ∷ rows) ≡ empties k (row ∷ []) ++ empties (k + 1) rows
empties-one k row rows = by-test (row.lo == row.hi) _ (k, row) (filter (λ (n : ℕ × Row). n.1.lo == n.1.hi) (enumerate_from (k + 1) rows))

-- what is told of the first place, and then of the others
pub last-one : {T : Type 0} (task_state : T → TaskState) (place : Option T) (places : List (Option T))
    → heard_last (held_in (table_in task_state (place ∷ places))) ≡ heard_last (held_in (table_in task_state (place ∷ []))) ++ heard_last (held_in (table_in task_state places))
last-one task_state None places = refl
last-one task_state (Some t) places = by-test (is_waiting (task_state t).row.state) _ (task_state t) (filter (λ (u : TaskState). is_waiting u.row.state) (held_in (table_in task_state places)))

-- the calls of one place, where the places from the i-th on are told of
at-place : {T : Type 0} (task_state : T → TaskState) (places : List (Option T)) (i : ℕ) (place : Option T) → i < length places → place ≡ get_or places i place
    → heard_last (held_in (table_in task_state (drop i places))) ≡ heard_last (held_in (table_in task_state (place ∷ []))) ++ heard_last (held_in (table_in task_state (drop (i + 1) places)))
at-place task_state places i place lt is =
    ap (λ (os : List (Option _)). heard_last (held_in (table_in task_state os))) (drop_more places i place lt ∙ ap (λ (o : Option _). o ∷ drop (i + 1) places) (sym is))
    ∙ last-one task_state place (drop (i + 1) places)

pub place-told : {T : Type 0} → TakenOneAfterAnother → (task_state : T → TaskState) (places : List (Option T)) (i : ℕ) (place : Option T) (now next later : List (AnsweredCall AnalyzerCall)) (found fault : Option ClassId)
    → i < length places → place ≡ get_or places i place → is_some found ≡ false → HasTaken now (heard_last (held_in (table_in task_state (place ∷ [])))) found next
    → HasTaken next (heard_last (held_in (table_in task_state (drop (i + 1) places)))) fault later → HasTaken now (heard_last (held_in (table_in task_state (drop i places)))) fault later
place-told law task_state places i place now next later None fault lt is none told rest =
    subst (λ (calls : List AnalyzerCall). HasTaken now calls fault later) (sym (at-place task_state places i place lt is)) (law now next later _ _ fault told rest)
place-told law task_state places i place now next later (Some class) fault lt is none told rest = let never : ⊥ = cc in absurd never

pub place-faulted : {T : Type 0} → NoneAfterAFault → (task_state : T → TaskState) (places : List (Option T)) (i : ℕ) (place : Option T) (now next : List (AnsweredCall AnalyzerCall)) (fault : Option ClassId)
    → i < length places → place ≡ get_or places i place → is_some fault ≡ true → HasTaken now (heard_last (held_in (table_in task_state (place ∷ [])))) fault next
    → HasTaken now (heard_last (held_in (table_in task_state (drop i places)))) fault next
place-faulted law task_state places i place now next None lt is some told = let never : ⊥ = cc in absurd never
place-faulted law task_state places i place now next (Some class) lt is some told =
    subst (λ (calls : List AnalyzerCall). HasTaken now calls (Some class) next) (sym (at-place task_state places i place lt is)) (law now next _ _ class told)

-- past the last place nothing is told
pub places-over : {T : Type 0} (task_state : T → TaskState) (places : List (Option T)) (i : ℕ) (now : List (AnsweredCall AnalyzerCall)) → length places ≤ i → HasTaken now (heard_last (held_in (table_in task_state (drop i places)))) None now
places-over task_state places i now le =
    subst (λ (calls : List AnalyzerCall). HasTaken now calls None now) (sym (at_drop_all (λ (os : List (Option _)). heard_last (held_in (table_in task_state os))) places i le)) (none_taken now)
