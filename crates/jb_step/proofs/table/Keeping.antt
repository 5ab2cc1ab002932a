-- A table with those of its tasks alone that pass a test.
use Rattle.std.proofs.Common.{◌≡◌, ℕ, suc, zero, ◌+◌, ◌<◌, Bool, true, false, cond, List, [], ◌∷◌, map, Some, None, refl, ap, ◌∙◌, arith, zero-add, eq-eqb}
use Rattle.std.specs.Prelude.{filter}
use Rattle.std.specs.List.{cons_option}
use Rattle.jb_chunk.specs.TaskState.{TaskState}
use Rattle.jb_step.specs.OnePartition.{alone_at}
use Rattle.jb_step.specs.Tables.{ArePlaced, Table, held_at, held_in, keep_if}
use Rattle.jb_step.proofs.table.Numbers.{differ, differ-back}

pub held-kept : (test : TaskState → Bool) (table : Table) → held_in (map (keep_if test) table) ≡ filter test (held_in table)
held-kept test [] = refl
held-kept test (None ∷ table) = held-kept test table
held-kept test (Some t ∷ table) =
    elim (test t) as (λ b. held_in (cond b (Some t) None ∷ map (keep_if test) table) ≡ cond b (t ∷ filter test (held_in table)) (filter test (held_in table))) [ true ↦ ap (λ (ts : List TaskState). t ∷ ts) (held-kept test table) | false ↦ held-kept test table ]

pub placed-kept : (test : TaskState → Bool) (k : ℕ) (table : Table) → ArePlaced k table → ArePlaced k (map (keep_if test) table)
placed-kept test k [] h = tt
placed-kept test k (None ∷ table) h = (tt, placed-kept test (k + 1) table h.1)
placed-kept test k (Some t ∷ table) h =
    elim (test t) as (λ b. ArePlaced k (cond b (Some t) None ∷ map (keep_if test) table)) [ true ↦ (h.0, placed-kept test (k + 1) table h.1) | false ↦ (tt, placed-kept test (k + 1) table h.1) ]

pub at-kept : (test : TaskState → Bool) (table : Table) (p : ℕ) → held_at (map (keep_if test) table) p ≡ keep_if test (held_at table p)
at-kept test [] p = refl
at-kept test (place ∷ table) zero = refl
at-kept test (place ∷ table) (suc p) = at-kept test table p

-- THE TASK OF ONE PARTITION

module _ (p : ℕ) where
  abbrev keeps : TaskState → Table → Bool → List TaskState
  keeps t table b = held_in (cond b (Some t) None ∷ alone_at p table)

  alone-past : (k : ℕ) (table : Table) → p < k → ArePlaced k table → held_in (alone_at p table) ≡ []
  alone-past k [] lt h = refl
  alone-past k (None ∷ table) lt h = alone-past (k + 1) table (omega (arith, lt)) h.1
  alone-past k (Some t ∷ table) lt h = let is = h.0 in ap (keeps t table) (differ-back t.partition p (omega (arith, lt, is))) ∙ alone-past (k + 1) table (omega (arith, lt)) h.1

  alone-from : (k i : ℕ) (table : Table) → k + i ≡ p → ArePlaced k table → held_in (alone_at p table) ≡ cons_option (held_at table i) []
  alone-from k i [] is h = refl
  alone-from k zero (None ∷ table) is h = alone-past (k + 1) table (omega (arith, is)) h.1
  alone-from k (suc i) (None ∷ table) is h = alone-from (k + 1) i table (omega (arith, is)) h.1
  alone-from k zero (Some t ∷ table) is h =
      let its = h.0 in
      ap (keeps t table) (eq-eqb t.partition p (omega (arith, is, its))) ∙ ap (λ (ts : List TaskState). t ∷ ts) (alone-past (k + 1) table (omega (arith, is)) h.1)
  alone-from k (suc i) (Some t ∷ table) is h =
      let its = h.0 in
      ap (keeps t table) (differ t.partition p (omega (arith, is, its))) ∙ alone-from (k + 1) i table (omega (arith, is)) h.1

  pub alone-is : (table : Table) → ArePlaced 0 table → held_in (alone_at p table) ≡ cons_option (held_at table p) []
  alone-is table h = alone-from 0 p table (zero-add p) h
