-- Tasks in the places of their partitions.
use Rattle.std.proofs.Common.{◌≡◌, ℕ, suc, zero, ◌+◌, Bool, true, false, not, cond, List, [], ◌∷◌, length, map, Some, None, refl, ap, ap₂, sym, ◌∙◌, subst, arith, zero-add}
use Rattle.std.specs.Prelude.{nat_eq, filter, find}
use Rattle.std.specs.List.{enumerate_from}
use Rattle.jb_base.specs.Pairwise.{Pairwise}
use Rattle.jb_rules.specs.declared.row.Row.{Row}
use Rattle.jb_rules.specs.States.{is_finished}
use Rattle.jb_chunk.specs.TaskState.{TaskState}
use Rattle.jb_step.specs.Tables.{ArePlaced, Table, held_at, held_in, in_places}
use Rattle.jb_step.specs.preparing.Setup.{needs}
use Rattle.jb_step.specs.inside.rounds.Round.{partitions_of}
use Rattle.jb_step.proofs.table.Held.{HasItsTask}
use Rattle.jb_step.proofs.table.Looking.{find-at}
use Rattle.jb_step.proofs.table.Numbers.{head-of, tail-of}

found-from : (ts : List TaskState) (k : ℕ) (rows : List Row) (table : Table) → length table ≡ length rows → ((i : ℕ) → find (λ (t : TaskState). nat_eq t.partition (k + i)) ts ≡ held_at table i)
    → map (λ (n : ℕ × Row). find (λ (t : TaskState). nat_eq t.partition n.0) ts) (enumerate_from k rows) ≡ table
found-from ts k [] [] long each = refl
found-from ts k [] (place ∷ table) long each = let never : ⊥ = cc in absurd never
found-from ts k (row ∷ rows) [] long each = let never : ⊥ = cc in absurd never
found-from ts k (row ∷ rows) (place ∷ table) long each =
    ap₂ ◌∷◌ (let e : k + 0 ≡ k = omega arith in subst (λ m. find (λ (t : TaskState). nat_eq t.partition m) ts ≡ place) e (each zero))
    (found-from ts (k + 1) rows table (omega (arith, long)) (λ i. let e : k + suc i ≡ (k + 1) + i = omega arith in subst (λ m. find (λ (t : TaskState). nat_eq t.partition m) ts ≡ held_at table i) e (each (suc i))))

-- they stand there as they do in a table that holds them
pub in-places : (rows : List Row) (ts : List TaskState) (table : Table) → length table ≡ length rows → ArePlaced 0 table → held_in table ≡ ts → in_places rows ts ≡ table
in-places rows ts table long h is =
    found-from ts 0 rows table long (λ i. ap (find (λ (t : TaskState). nat_eq t.partition (0 + i))) (sym is) ∙ ap (λ p. find (λ (t : TaskState). nat_eq t.partition p) (held_in table)) (zero-add i) ∙ find-at table i h)

-- TASKS OF THE UNFINISHED ROWS

abbrev pub is_open : ℕ × Row → Bool
is_open n = not (is_finished n.1.state)

abbrev named : List (ℕ × Row) → List ℕ
named ns = map (λ (n : ℕ × Row). n.0) ns

-- in places for all rows
abbrev spread : List Row → List TaskState → Table
spread [] ts = []
spread (row ∷ rows) [] = None ∷ spread rows []
spread (row ∷ rows) (t ∷ ts) = cond (is_finished row.state) (None ∷ spread rows (t ∷ ts)) (Some t ∷ spread rows ts)

record IsSpread (k : ℕ) (rows : List Row) (ts : List TaskState) (table : Table) : Type 0 where
  held : held_in table ≡ ts
  placed : ArePlaced k table
  unfinished : Pairwise HasItsTask rows table

is-spread : (k : ℕ) (rows : List Row) (ts : List TaskState) → partitions_of ts ≡ named (filter is_open (enumerate_from k rows)) → IsSpread k rows ts (spread rows ts)
is-spread k [] [] e = record { held = refl; placed = tt; unfinished = tt }
is-spread k [] (t ∷ ts) e = let never : ⊥ = cc in absurd never
is-spread k (row ∷ rows) [] e = by (is_finished row.state) refl e (is-spread (k + 1) rows [])
  where
    by : (b : Bool) → is_finished row.state ≡ b → [] ≡ named (cond (not b) ((k, row) ∷ filter is_open (enumerate_from (k + 1) rows)) (filter is_open (enumerate_from (k + 1) rows))) → ([] ≡ named (filter is_open (enumerate_from (k + 1) rows)) → IsSpread (k + 1) rows [] (spread rows [])) → IsSpread k (row ∷ rows) [] (None ∷ spread rows [])
    by true is e others = let rest = others e in record { held = rest.held; placed = (tt, rest.placed); unfinished = (sym (ap not is), rest.unfinished) }
    by false is e others = let never : ⊥ = cc in absurd never
is-spread k (row ∷ rows) (t ∷ ts) e = by (is_finished row.state) refl e (is-spread (k + 1) rows (t ∷ ts)) (is-spread (k + 1) rows ts)
  where
    by : (b : Bool) → is_finished row.state ≡ b → t.partition ∷ partitions_of ts ≡ named (cond (not b) ((k, row) ∷ filter is_open (enumerate_from (k + 1) rows)) (filter is_open (enumerate_from (k + 1) rows)))
        → (t.partition ∷ partitions_of ts ≡ named (filter is_open (enumerate_from (k + 1) rows)) → IsSpread (k + 1) rows (t ∷ ts) (spread rows (t ∷ ts)))
        → (partitions_of ts ≡ named (filter is_open (enumerate_from (k + 1) rows)) → IsSpread (k + 1) rows ts (spread rows ts))
        → IsSpread k (row ∷ rows) (t ∷ ts) (cond b (None ∷ spread rows (t ∷ ts)) (Some t ∷ spread rows ts))
    by true is e all others = let rest = all e in record { held = rest.held; placed = (tt, rest.placed); unfinished = (sym (ap not is), rest.unfinished) }
    by false is e all others =
        let behind = named (filter is_open (enumerate_from (k + 1) rows)) in
        let rest = others (tail-of t.partition k (partitions_of ts) behind e) in
        record { held = ap (λ (us : List TaskState). t ∷ us) rest.held; placed = (head-of t.partition k (partitions_of ts) behind e, rest.placed); unfinished = (sym (ap not is), rest.unfinished) }

as-many : (rows : List Row) (table : Table) → Pairwise HasItsTask rows table → length table ≡ length rows
as-many [] [] h = refl
as-many [] (place ∷ table) h = absurd h
as-many (row ∷ rows) [] h = absurd h
as-many (row ∷ rows) (place ∷ table) h = ap suc (as-many rows table h.1)

-- tasks in the places of their partitions
pub record ArePut (rows : List Row) (ts : List TaskState) : Type 0 where
  pub held : held_in (in_places rows ts) ≡ ts
  pub placed : ArePlaced 0 (in_places rows ts)
  pub unfinished : Pairwise HasItsTask rows (in_places rows ts)

pub are-put : (rows : List Row) (ts : List TaskState) → partitions_of ts ≡ needs rows → ArePut rows ts
are-put rows ts names =
    let h = is-spread 0 rows ts names in
    let is = sym (in-places rows ts (spread rows ts) (as-many rows (spread rows ts) h.unfinished) h.placed h.held) in
    record { held = ap held_in (sym is) ∙ h.held; placed = subst (ArePlaced 0) is h.placed; unfinished = subst (Pairwise HasItsTask rows) is h.unfinished }
