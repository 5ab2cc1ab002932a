-- A table, place by place.
use Rattle.std.proofs.Common.{◌≡◌, ℕ, suc, zero, ◌+◌, true, false, cond, not, List, [], ◌∷◌, ◌++◌, length, map, Option, Some, None, refl, ap, sym, ◌∙◌, subst, arith, zero-add}
use Rattle.std.specs.Prelude.{is_some, option_map, slice_get, slice_index_or}
use Rattle.std.specs.List.{AllByRecursion}
use Rattle.jb_base.specs.Pairwise.{Pairwise}
use Rattle.jb_rules.specs.declared.row.Row.{Row}
use Rattle.jb_rules.specs.declared.row.RowState.{RowState}
use Rattle.jb_rules.specs.declared.row.RowState.TheVariants as state
use Rattle.jb_rules.specs.States.{is_finished, is_waiting}
use Rattle.jb_cert.specs.Lawful.{Pair}
use Rattle.jb_cert.specs.Rising.{RiseFrom}
use Rattle.jb_chunk.specs.Attempt.{attempt_of}
use Rattle.jb_chunk.specs.TaskState.{TaskState}
use Rattle.jb_step.specs.Tables.{ArePlaced, Table, held_in, held_at}
use Rattle.jb_step.specs.rounds.Rounds.{after_in, after_round, has_partition}
use Rattle.jb_step.specs.inside.rounds.Round.{partitions_of}
use Rattle.jb_step.proofs.table.Filters.{rise-lower}

-- WHAT IS DONE TO EACH TASK

pub held-map : {X Y : Type 0} (f : X → Y) (places : List (Option X)) → held_in (map (option_map f) places) ≡ map f (held_in places)
held-map f [] = refl
held-map f (None ∷ places) = held-map f places
held-map f (Some x ∷ places) = ap (λ (ys : List _). f x ∷ ys) (held-map f places)

pub at-map : {X Y : Type 0} (f : X → Y) (places : List (Option X)) (p : ℕ) → slice_index_or (map (option_map f) places) p None ≡ option_map f (slice_index_or places p None)
at-map f [] p = refl
at-map f (place ∷ places) zero = refl
at-map f (place ∷ places) (suc p) = at-map f places p

pub placed-map : (f : TaskState → TaskState) → ((t : TaskState) → (f t).partition ≡ t.partition) → (k : ℕ) (table : Table) → ArePlaced k table → ArePlaced k (map (option_map f) table)
placed-map f same k [] h = tt
placed-map f same k (None ∷ table) h = (tt, placed-map f same (k + 1) table h.1)
placed-map f same k (Some t ∷ table) h = (same t ∙ h.0, placed-map f same (k + 1) table h.1)

-- one place more
pub placed-more : {T : Type 0} (task_state : T → TaskState) (k : ℕ) (places : List (Option T)) (place : Option T) → ArePlaced k (map (option_map task_state) places) → ArePlaced (k + length places) (map (option_map task_state) (place ∷ []))
    → ArePlaced k (map (option_map task_state) places ++ map (option_map task_state) (place ∷ []))
placed-more task_state k [] place h here = subst (λ n. ArePlaced n (map (option_map task_state) (place ∷ []))) (let e : k + 0 ≡ k = omega arith in e) here
placed-more task_state k (o ∷ places) place h here =
    (h.0, placed-more task_state (k + 1) places place h.1 (subst (λ n. ArePlaced n (map (option_map task_state) (place ∷ []))) (let e : k + suc (length places) ≡ (k + 1) + length places = omega arith in e) here))

-- a place has a task where its row is unfinished
abbrev pub HasItsTask : Row → Option TaskState → Type 0
HasItsTask row place = is_some place ≡ not (is_finished row.state)

pub tasks-stay : (f : TaskState → TaskState) (rows : List Row) (table : Table) → Pairwise HasItsTask rows table → Pairwise HasItsTask rows (map (option_map f) table)
tasks-stay f [] [] h = tt
tasks-stay f [] (place ∷ table) h = absurd h
tasks-stay f (row ∷ rows) [] h = absurd h
tasks-stay f (row ∷ rows) (None ∷ table) h = (h.0, tasks-stay f rows table h.1)
tasks-stay f (row ∷ rows) (Some t ∷ table) h = (h.0, tasks-stay f rows table h.1)

-- A ROUND

pub stays : (set : List Pair) (t : TaskState) → (after_in set t).partition ≡ t.partition
stays set t = elim (has_partition set t.partition) as (λ b. (cond b (attempt_of t).task t).partition ≡ t.partition) [ true ↦ refl | false ↦ refl ]

pub held-round : (set : List Pair) (table : Table) → held_in (after_round set table) ≡ map (after_in set) (held_in table)
held-round set table = held-map (after_in set) table

pub at-round : (set : List Pair) (table : Table) (p : ℕ) → held_at (after_round set table) p ≡ option_map (after_in set) (held_at table p)
at-round set table p = at-map (after_in set) table p

pub placed-round : (set : List Pair) (table : Table) → ArePlaced 0 table → ArePlaced 0 (after_round set table)
placed-round set table h = placed-map (after_in set) (stays set) 0 table h

-- THE TASK IN A PLACE

pub some-is : (t u : TaskState) → Some t ≡ Some u → t ≡ u
some-is t u e = cc

pub none-is : (t : TaskState) → None ≡ Some t → ⊥
none-is t e = cc

named-from : (k i p : ℕ) (table : Table) (t : TaskState) → k + i ≡ p → ArePlaced k table → held_at table i ≡ Some t → t.partition ≡ p
named-from k i p [] t is h e = absurd (none-is t e)
named-from k zero p (None ∷ table) t is h e = absurd (none-is t e)
named-from k zero p (Some u ∷ table) t is h e = ap (λ (v : TaskState). v.partition) (sym (some-is u t e)) ∙ h.0 ∙ (let same : k ≡ p = omega (arith, is) in same)
named-from k (suc i) p (place ∷ table) t is h e = named-from (k + 1) i p table t (omega (arith, is)) h.1 e

pub named : (table : Table) (p : ℕ) (t : TaskState) → ArePlaced 0 table → held_at table p ≡ Some t → t.partition ≡ p
named table p t h e = named-from 0 p p table t (zero-add p) h e

-- what holds of all tasks holds of it
pub member : (P : TaskState → Type 0) (table : Table) (p : ℕ) (t : TaskState) → AllByRecursion P (held_in table) → held_at table p ≡ Some t → P t
member P [] p t all e = absurd (none-is t e)
member P (None ∷ table) zero t all e = absurd (none-is t e)
member P (Some u ∷ table) zero t all e = subst P (some-is u t e) all.0
member P (None ∷ table) (suc p) t all e = member P table p t all e
member P (Some u ∷ table) (suc p) t all e = member P table p t all.1 e

-- a row that has no task doesn't wait
pub rest-of : (rows : List Row) (table : Table) → Pairwise HasItsTask rows table → (p : ℕ) (row : Row) → slice_get rows p ≡ Some row → held_at table p ≡ None → is_waiting row.state ≡ false
rest-of [] table h p row get none = let never : ⊥ = cc in absurd never
rest-of (r ∷ rows) [] h p row get none = absurd h
rest-of (r ∷ rows) (place ∷ table) h (suc p) row get none = rest-of rows table h.1 p row get none
rest-of (r ∷ rows) (place ∷ table) h zero row get none =
    closed row.state (sym (ap is_some none) ∙ h.0 ∙ ap (λ (s : Row). not (is_finished s.state)) same)
  where
    same : r ≡ row
    same = cc

    closed : (s : RowState) → false ≡ not (is_finished s) → is_waiting s ≡ false
    closed state.Waiting e = let never : ⊥ = cc in absurd never
    closed (state.Running lane) e = refl
    closed state.Finished e = refl
    closed state.Failed e = refl

-- they come by rising partition
pub rises : (k : ℕ) (table : Table) → ArePlaced k table → RiseFrom k (partitions_of (held_in table))
rises k [] h = tt
rises k (None ∷ table) h = rise-lower k (k + 1) (partitions_of (held_in table)) (omega arith) (rises (k + 1) table h.1)
rises k (Some t ∷ table) h =
    let is = h.0 in
    (omega (arith, is), subst (λ n. RiseFrom (n + 1) (partitions_of (held_in table))) (sym is) (rises (k + 1) table h.1))
