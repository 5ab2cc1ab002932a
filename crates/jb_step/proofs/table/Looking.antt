-- What a task of a table has, looked up by the number of its partition.
use Rattle.std.proofs.Common.{◌≡◌, ℕ, suc, zero, ◌+◌, ◌<◌, Bool, cond, List, [], ◌∷◌, Option, Some, None, refl, ap, ap₂, ◌∙◌, arith, zero-add, eq-eqb}
use Rattle.std.specs.Prelude.{nat_eq, find}
use Rattle.std.specs.Option.{option_map_or}
use Rattle.jb_chunk.specs.TaskState.{TaskState}
use Rattle.jb_step.specs.Tables.{ArePlaced, Table, held_at, held_in}
use Rattle.jb_step.proofs.table.Numbers.{differ, differ-back}

-- what the first task of a partition has, or else this
abbrev pub look : {A : Type 0} → (TaskState → A) → ℕ → List TaskState → A → A
look part p [] other = other
look part p (t ∷ ts) other = cond (nat_eq t.partition p) (part t) (look part p ts other)

module _ {A : Type 0} (part : TaskState → A) (p : ℕ) (other : A) where
  look-past : (k : ℕ) (table : Table) → p < k → ArePlaced k table → look part p (held_in table) other ≡ other
  look-past k [] lt h = refl
  look-past k (None ∷ table) lt h = look-past (k + 1) table (omega (arith, lt)) h.1
  look-past k (Some t ∷ table) lt h =
      let is = h.0 in
      ap₂ (λ (b : Bool) (x : A). cond b (part t) x) (differ-back t.partition p (omega (arith, lt, is))) (look-past (k + 1) table (omega (arith, lt)) h.1)

  look-from : (k i : ℕ) (table : Table) → k + i ≡ p → ArePlaced k table → look part p (held_in table) other ≡ option_map_or part (held_at table i) other
  look-from k i [] is h = refl
  look-from k zero (None ∷ table) is h = look-past (k + 1) table (omega (arith, is)) h.1
  look-from k (suc i) (None ∷ table) is h = look-from (k + 1) i table (omega (arith, is)) h.1
  look-from k zero (Some t ∷ table) is h = let its = h.0 in ap (λ (b : Bool). cond b (part t) (look part p (held_in table) other)) (eq-eqb t.partition p (omega (arith, is, its)))
  look-from k (suc i) (Some t ∷ table) is h =
      let its = h.0 in
      ap₂ (λ (b : Bool) (x : A). cond b (part t) x) (differ t.partition p (omega (arith, is, its))) (look-from (k + 1) i table (omega (arith, is)) h.1)

  pub look-at : (table : Table) → ArePlaced 0 table → look part p (held_in table) other ≡ option_map_or part (held_at table p) other
  look-at table h = look-from 0 p table (zero-add p) h

find-is : (p : ℕ) (ts : List TaskState) → find (λ (t : TaskState). nat_eq t.partition p) ts ≡ look Some p ts None
find-is p [] = refl
find-is p (t ∷ ts) = ap (λ (o : Option TaskState). cond (nat_eq t.partition p) (Some t) o) (find-is p ts)

some-of : (place : Option TaskState) → option_map_or Some place None ≡ place
some-of None = refl
some-of (Some t) = refl

pub find-at : (table : Table) (p : ℕ) → ArePlaced 0 table → find (λ (t : TaskState). nat_eq t.partition p) (held_in table) ≡ held_at table p
find-at table p h = find-is p (held_in table) ∙ look-at Some p None table h ∙ some-of (held_at table p)
