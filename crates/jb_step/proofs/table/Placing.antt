-- Tasks that are taken out of their places for a round, and put back.
use Rattle.std.proofs.Common.{◌≡◌, ℕ, suc, zero, ◌+◌, ◌<◌, Bool, true, false, cond, ◌||◌, List, [], ◌∷◌, length, map, Option, Some, None, refl, ap, ap₂, sym, ◌∙◌, subst, arith, zero-add, eq-eqb, append-nil}
use Rattle.std.specs.Prelude.{slice_index_or, slice_set, option_map}
use Rattle.std.specs.List.{cons_option, AllByRecursion}
use Rattle.std.specs.Option.{IfSome}
use Rattle.std.proofs.lemmas.List.{get_or-set_other, length-map, map-set, set-set, set_comm}
use Rattle.std.proofs.lemmas.Simd.{map-map}
use Rattle.jb_cert.specs.Lawful.{Pair}
use Rattle.jb_cert.specs.Plans.{slot_pair}
use Rattle.jb_cert.specs.Rising.{RiseFrom}
use Rattle.jb_cert.specs.declared.plans.Slot.{Slot}
use Rattle.jb_chunk.specs.Attempt.{AttemptEnd, attempt_of, ending_of, IsAttemptBy}
use Rattle.jb_chunk.specs.TaskState.{TaskState, IsReady}
use Rattle.jb_chunk.specs.declared.outcome.Done.{Done}
use Rattle.jb_chunk.specs.declared.outcome.Outcome.{Outcome}
use Rattle.jb_chunk.specs.declared.outcome.Outcome.TheVariants.{Committed, Rolled, Failed, NoMemory}
use Rattle.jb_collect.specs.Heard.{endings_of}
use Rattle.jb_step.specs.Alone.{AreReady}
use Rattle.jb_step.specs.Tables.{ArePlaced, Table, held_in, held_at}
use Rattle.jb_step.specs.rounds.Rounds.{after_in, after_round, attempts_in, attempts_of, has_partition, tasks_in}
use Rattle.jb_step.specs.inside.table.Places.{emptied, filled, picked, table_in}
use Rattle.jb_step.specs.inside.rounds.Round.{AreDonesOf, AreWhole, had_memory}
use Rattle.jb_step.proofs.table.Filters.{all-back, all-both, all-map, kept-so}
use Rattle.jb_step.proofs.table.Held.{at-map, held-round, named}
use Rattle.jb_step.proofs.table.Numbers.{differ, differ-back}

abbrev pub firsts : List Pair → List ℕ
firsts set = map (λ (pair : Pair). pair.0) set

abbrev next : TaskState → TaskState
next t = (attempt_of t).task

-- WHAT IS PUT ELSEWHERE DOESN'T COUNT

module _ (p : ℕ) (x : Option TaskState) where
  emptied-put : (k : ℕ) (set : List Pair) (table : Table) → p < k → RiseFrom k (firsts set) → slice_set (emptied set table) p x ≡ emptied set (slice_set table p x)
  emptied-put k [] table lt rise = refl
  emptied-put k (pair ∷ set) table lt rise =
      let le = rise.0 in
      emptied-put (pair.0 + 1) set (slice_set table pair.0 None) (omega (arith, lt, le)) rise.1
      ∙ ap (emptied set) (set_comm table pair.0 p None x (λ e. omega (arith, e, lt, le)))

  picked-put : (k : ℕ) (set : List Pair) (table : Table) → p < k → RiseFrom k (firsts set) → picked set (slice_set table p x) ≡ picked set table
  picked-put k [] table lt rise = refl
  picked-put k (pair ∷ set) table lt rise =
      let le = rise.0 in
      ap₂ cons_option (get_or-set_other table p pair.0 x None (λ e. omega (arith, e, lt, le)))
      (ap (picked set) (set_comm table p pair.0 x None (λ e. omega (arith, e, lt, le))) ∙ picked-put (pair.0 + 1) set (slice_set table pair.0 None) (omega (arith, lt, le)) rise.1)

-- the partition's own task may be put into its place, or none
placed-set : (k i p : ℕ) (x : Option TaskState) (table : Table) → k + i ≡ p → IfSome x (λ t. t.partition ≡ p) → ArePlaced k table → ArePlaced k (slice_set table i x)
placed-set k i p x [] is here h = tt
placed-set k zero p x (place ∷ table) is here h = (subst (λ n. IfSome x (λ t. t.partition ≡ n)) (omega (arith, is)) here, h.1)
placed-set k (suc i) p x (place ∷ table) is here h = (h.0, placed-set (k + 1) i p x table (omega (arith, is)) here h.1)

-- A SET WITH A PAIR MORE

has-none : (p k : ℕ) (set : List Pair) → p < k → RiseFrom k (firsts set) → has_partition set p ≡ false
has-none p k [] lt rise = refl
has-none p k (pair ∷ set) lt rise =
    let le = rise.0 in
    ap₂ ◌||◌ (differ-back pair.0 p (omega (arith, lt, le))) (has-none p (pair.0 + 1) set (omega (arith, lt, le)) rise.1)

module _ (pair : Pair) (set : List Pair) where
  -- what a task is left as, and whether it is taken, where the pair's partition is its own, or isn't
  abbrev leaves : TaskState → Bool → TaskState
  leaves t own = cond (own || has_partition set t.partition) (next t) t

  abbrev takes : TaskState → Bool → List TaskState → List TaskState
  takes t own us = cond (own || has_partition set t.partition) (t ∷ us) us

  -- the pair's partition isn't among higher ones
  past-left : (k : ℕ) (table : Table) → pair.0 < k → ArePlaced k table → after_round (pair ∷ set) table ≡ after_round set table
  past-left k [] lt h = refl
  past-left k (None ∷ table) lt h = ap (λ (os : Table). None ∷ os) (past-left (k + 1) table (omega (arith, lt)) h.1)
  past-left k (Some t ∷ table) lt h =
      let is = h.0 in
      ap₂ (λ (b : Bool) (os : Table). Some (leaves t b) ∷ os) (differ pair.0 t.partition (omega (arith, lt, is))) (past-left (k + 1) table (omega (arith, lt)) h.1)

  past-taken : (k : ℕ) (table : Table) → pair.0 < k → ArePlaced k table → tasks_in (pair ∷ set) table ≡ tasks_in set table
  past-taken k [] lt h = refl
  past-taken k (None ∷ table) lt h = past-taken (k + 1) table (omega (arith, lt)) h.1
  past-taken k (Some t ∷ table) lt h =
      let is = h.0 in
      ap₂ (λ (b : Bool) (us : List TaskState). takes t b us) (differ pair.0 t.partition (omega (arith, lt, is))) (past-taken (k + 1) table (omega (arith, lt)) h.1)

  -- the set with the pair leaves what the set leaves of the places with the attempt in the pair's
  left-from : (k i : ℕ) (table : Table) → k + i ≡ pair.0 → RiseFrom (pair.0 + 1) (firsts set) → ArePlaced k table → after_round (pair ∷ set) table ≡ after_round set (slice_set table i (option_map next (held_at table i)))
  left-from k i [] is rise h = refl
  left-from k zero (None ∷ table) is rise h = ap (λ (os : Table). None ∷ os) (past-left (k + 1) table (omega (arith, is)) h.1)
  left-from k zero (Some t ∷ table) is rise h =
      let its = h.0 in
      let none = has-none t.partition (pair.0 + 1) set (omega (arith, is, its)) rise in
      ap₂ (λ (b : Bool) (os : Table). Some (leaves t b) ∷ os) (eq-eqb pair.0 t.partition (omega (arith, is, its))) (past-left (k + 1) table (omega (arith, is)) h.1)
      ∙ ap (λ (b : Bool). Some (cond b (next (next t)) (next t)) ∷ after_round set table) (sym none)
  left-from k (suc i) (None ∷ table) is rise h = ap (λ (os : Table). None ∷ os) (left-from (k + 1) i table (omega (arith, is)) rise h.1)
  left-from k (suc i) (Some t ∷ table) is rise h =
      let its = h.0 in
      ap₂ (λ (b : Bool) (os : Table). Some (leaves t b) ∷ os) (differ-back pair.0 t.partition (omega (arith, is, its))) (left-from (k + 1) i table (omega (arith, is)) rise h.1)

  -- and takes the task in the pair's place first, and then the set's
  taken-from : (k i : ℕ) (table : Table) → k + i ≡ pair.0 → RiseFrom (pair.0 + 1) (firsts set) → ArePlaced k table → tasks_in (pair ∷ set) table ≡ cons_option (held_at table i) (tasks_in set (slice_set table i None))
  taken-from k i [] is rise h = refl
  taken-from k zero (None ∷ table) is rise h = past-taken (k + 1) table (omega (arith, is)) h.1
  taken-from k zero (Some t ∷ table) is rise h =
      let its = h.0 in
      ap₂ (λ (b : Bool) (us : List TaskState). takes t b us) (eq-eqb pair.0 t.partition (omega (arith, is, its))) (past-taken (k + 1) table (omega (arith, is)) h.1)
  taken-from k (suc i) (None ∷ table) is rise h = taken-from (k + 1) i table (omega (arith, is)) rise h.1
  taken-from k (suc i) (Some t ∷ table) is rise h =
      let its = h.0 in
      let none = has-none t.partition (pair.0 + 1) set (omega (arith, is, its)) rise in
      let rest = taken-from (k + 1) i table (omega (arith, is)) rise h.1 in
      ap₂ (λ (b : Bool) (us : List TaskState). takes t b us) (differ-back pair.0 t.partition (omega (arith, is, its))) rest
      ∙ ap (λ (c : Bool). cond c (t ∷ cons_option (held_at table i) (tasks_in set (slice_set table i None))) (cons_option (held_at table i) (tasks_in set (slice_set table i None)))) none
      ∙ ap (λ (c : Bool). cons_option (held_at table i) (cond c (t ∷ tasks_in set (slice_set table i None)) (tasks_in set (slice_set table i None)))) (sym none)

-- A ROUND OF A TABLE

none-taken : (table : Table) → tasks_in [] table ≡ []
none-taken [] = refl
none-taken (None ∷ table) = none-taken table
none-taken (Some t ∷ table) = none-taken table

all-stay : (table : Table) → after_round [] table ≡ table
all-stay [] = refl
all-stay (None ∷ table) = ap (λ (os : Table). None ∷ os) (all-stay table)
all-stay (Some t ∷ table) = ap (λ (os : Table). Some t ∷ os) (all-stay table)

-- what is taken out are the set's tasks
taken-are-in : (k : ℕ) (set : List Pair) (table : Table) → RiseFrom k (firsts set) → ArePlaced 0 table → picked set table ≡ tasks_in set table
taken-are-in k [] table rise placed = sym (none-taken table)
taken-are-in k (pair ∷ set) table rise placed =
    ap (cons_option (held_at table pair.0)) (taken-are-in (pair.0 + 1) set (slice_set table pair.0 None) rise.1 (placed-set 0 pair.0 pair.0 None table (zero-add pair.0) tt placed))
    ∙ sym (taken-from pair set 0 pair.0 table (zero-add pair.0) rise.1 placed)

-- tasks are put into the places of their partitions, one after another
abbrev put : List TaskState → Table → Table
put [] table = table
put (t ∷ ts) table = put ts (slice_set table t.partition (Some t))

-- and what is put back are their attempts
put-back-in : (k : ℕ) (set : List Pair) (table : Table) → RiseFrom k (firsts set) → ArePlaced 0 table → put (map next (picked set table)) (emptied set table) ≡ after_round set table
put-back-in k [] table rise placed = sym (all-stay table)
put-back-in k (pair ∷ set) table rise placed = by (put-back-in (pair.0 + 1) set) (held_at table pair.0) refl
  where
    p : ℕ
    p = pair.0

    first : after_round (pair ∷ set) table ≡ after_round set (slice_set table p (option_map next (held_at table p)))
    first = left-from pair set 0 p table (zero-add p) rise.1 placed

    out : Table
    out = slice_set table p None

    by : ((table : Table) → RiseFrom (p + 1) (firsts set) → ArePlaced 0 table → put (map next (picked set table)) (emptied set table) ≡ after_round set table)
        → (o : Option TaskState) → held_at table p ≡ o → put (map next (cons_option o (picked set out))) (emptied set out) ≡ after_round (pair ∷ set) table
    by again None e = again out rise.1 (placed-set 0 p p None table (zero-add p) tt placed) ∙ sym (first ∙ ap (λ (o : Option TaskState). after_round set (slice_set table p (option_map next o))) e)
    by again (Some t) e =
        let its = named table p t placed e in
        let now : Table = slice_set table p (Some (next t)) in
        ap (λ (q : ℕ). put (map next (picked set out)) (slice_set (emptied set out) q (Some (next t)))) its
        ∙ ap₂ (λ (us : List TaskState) (os : Table). put (map next us) os)
        (picked-put p None (p + 1) set table (omega arith) rise.1 ∙ sym (picked-put p (Some (next t)) (p + 1) set table (omega arith) rise.1))
        (emptied-put p (Some (next t)) (p + 1) set out (omega arith) rise.1 ∙ ap (emptied set) (set-set table p None (Some (next t))))
        ∙ again now rise.1 (placed-set 0 p p (Some (next t)) table (zero-add p) its placed)
        ∙ sym (first ∙ ap (λ (o : Option TaskState). after_round set (slice_set table p (option_map next o))) e)

-- A ROUND OF PLACES

attempt_by : (o : Outcome) (t : TaskState) (e : AttemptEnd) → IsAttemptBy o t e → had_memory o ≡ true → e ≡ attempt_of t
attempt_by (Committed delta) t e h m = h
attempt_by (Rolled class) t e h m = h
attempt_by (Failed class) t e h m = h
attempt_by NoMemory t e h m = let never : ⊥ = cc in absurd never

module _ {T : Type 0} (task_state : T → TaskState) where
  map-cons : (x : Option T) (ts : List T) → map task_state (cons_option x ts) ≡ cons_option (option_map task_state x) (map task_state ts)
  map-cons None ts = refl
  map-cons (Some t) ts = refl

  picked-in : (set : List Pair) (os : List (Option T)) → map task_state (picked set os) ≡ picked set (table_in task_state os)
  picked-in [] os = refl
  picked-in (pair ∷ set) os =
      map-cons (slice_index_or os pair.0 None) (picked set (slice_set os pair.0 None))
      ∙ ap₂ cons_option (sym (at-map task_state os pair.0)) (picked-in set (slice_set os pair.0 None) ∙ ap (picked set) (map-set (option_map task_state) os pair.0 None))

  emptied-in : (set : List Pair) (os : List (Option T)) → table_in task_state (emptied set os) ≡ emptied set (table_in task_state os)
  emptied-in [] os = refl
  emptied-in (pair ∷ set) os = emptied-in set (slice_set os pair.0 None) ∙ ap (emptied set) (map-set (option_map task_state) os pair.0 None)

  filled-in : (ds : List (Done T)) (os : List (Option T)) → table_in task_state (filled task_state ds os) ≡ put (map (λ (d : Done T). task_state d.task) ds) (table_in task_state os)
  filled-in [] os = refl
  filled-in (d ∷ ds) os =
      let t = task_state d.task in
      filled-in ds (slice_set os t.partition (Some d.task)) ∙ ap (put (map (λ (d : Done T). task_state d.task) ds)) (map-set (option_map task_state) os t.partition (Some d.task))

  pub taken-are : (set : List Pair) (os : List (Option T)) → RiseFrom 0 (firsts set) → ArePlaced 0 (table_in task_state os) → map task_state (picked set os) ≡ tasks_in set (table_in task_state os)
  taken-are set os rise placed = picked-in set os ∙ taken-are-in 0 set (table_in task_state os) rise placed

  endings-are : (us : List T) (ds : List (Done T)) → AreDonesOf task_state us ds → AreWhole ds → endings_of task_state ds ≡ map attempt_of (map task_state us)
  endings-are [] [] h m = refl
  endings-are [] (d ∷ ds) h m = absurd h
  endings-are (u ∷ us) [] h m = absurd h
  endings-are (u ∷ us) (d ∷ ds) h m = ap₂ ◌∷◌ (attempt_by d.outcome (task_state u) (ending_of (task_state d.task) d.outcome d.values.items d.again) h.0.attempt m.0) (endings-are us ds h.1 m.1)

  are-ready : (us : List T) (ds : List (Done T)) → AreDonesOf task_state us ds → AllByRecursion (λ (d : Done T). IsReady (task_state d.task)) ds
  are-ready [] [] h = tt
  are-ready [] (d ∷ ds) h = absurd h
  are-ready (u ∷ us) [] h = absurd h
  are-ready (u ∷ us) (d ∷ ds) h = (h.0.ready, are-ready us ds h.1)

-- the set's tasks are ready behind their attempts, and the others as they were
ready-round : (set : List Pair) (table : Table) → AreReady (held_in table) → AllByRecursion (λ (t : TaskState). IsReady (next t)) (tasks_in set table) → AreReady (held_in (after_round set table))
ready-round set table ready again =
    subst AreReady (sym (held-round set table))
    (all-map IsReady (after_in set) (held_in table)
    (all-both IsReady (λ (t : TaskState). has_partition set t.partition ≡ true → IsReady (next t)) (λ (t : TaskState). IsReady (after_in set t)) one (held_in table) ready
    (kept-so (λ (t : TaskState). IsReady (next t)) (λ (t : TaskState). has_partition set t.partition) (held_in table) again)))
  where
    one : (t : TaskState) → IsReady t → (has_partition set t.partition ≡ true → IsReady (next t)) → IsReady (after_in set t)
    one t ready more = elim (has_partition set t.partition) as (λ b. (b ≡ true → IsReady (next t)) → IsReady (cond b (next t) t)) [ true ↦ λ more. more refl | false ↦ λ more. ready ] more

-- these Dones, put back, are a round of the set
pub record IsPutBack {T : Type 0} (task_state : T → TaskState) (set : List Pair) (before : List (Option T)) (ds : List (Done T)) (after : List (Option T)) : Type 0 where
  pub table_is : table_in task_state after ≡ after_round set (table_in task_state before)
  pub ready : AreReady (held_in (table_in task_state before)) → AreReady (held_in (table_in task_state after))
  pub ends : endings_of task_state ds ≡ attempts_of (set ∷ []) (table_in task_state before)
  pub number : length ds ≡ length (attempts_of (set ∷ []) (table_in task_state before))

pub put-back : {T : Type 0} (task_state : T → TaskState) (set : List Pair) (os : List (Option T)) (ds : List (Done T)) → RiseFrom 0 (firsts set) → ArePlaced 0 (table_in task_state os)
    → AreDonesOf task_state (picked set os) ds → AreWhole ds → IsPutBack task_state set os ds (filled task_state ds (emptied set os))
put-back task_state set os ds rise placed h m =
    let table = table_in task_state os in
    let made = endings-are task_state (picked set os) ds h m in
    let ends = made ∙ ap (map attempt_of) (taken-are task_state set os rise placed) ∙ sym (append-nil (attempts_in set table)) in
    let left : map (λ (d : Done _). task_state d.task) ds ≡ map next (map task_state (picked set os)) =
    sym (map-map (λ (e : AttemptEnd). e.task) (λ (d : Done _). ending_of (task_state d.task) d.outcome d.values.items d.again) ds) ∙ ap (map (λ (e : AttemptEnd). e.task)) made ∙ map-map (λ (e : AttemptEnd). e.task) attempt_of (map task_state (picked set os)) in
    let is : table_in task_state (filled task_state ds (emptied set os)) ≡ after_round set table =
    filled-in task_state ds (emptied set os) ∙ ap₂ put (left ∙ ap (map next) (picked-in task_state set os)) (emptied-in task_state set os) ∙ put-back-in 0 set table rise placed in
    record {
      table_is = is;
      ready = λ r.
          subst (λ (os : Table). AreReady (held_in os)) (sym is)
          (ready-round set table r
          (all-back IsReady next (tasks_in set table)
          (subst AreReady (left ∙ ap (map next) (taken-are task_state set os rise placed)) (all-map IsReady (λ (d : Done _). task_state d.task) ds (are-ready task_state (picked set os) ds h)))));
      ends = ends;
      number = sym (length-map ds (λ (d : Done _). ending_of (task_state d.task) d.outcome d.values.items d.again)) ∙ ap length ends;
    }

-- slots that come by rising partition, as pairs
pub in-turn : (slots : List Slot) → RiseFrom 0 (map (λ (slot : Slot). slot.partition) slots) → RiseFrom 0 (firsts (map slot_pair slots))
in-turn slots rise = subst (λ (ns : List ℕ). RiseFrom 0 ns) (sym (map-map _ slot_pair slots)) rise
