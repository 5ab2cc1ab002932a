-- The rows of all partitions, by a table.
use Rattle.std.proofs.Common.{◌≡◌, ℕ, suc, zero, ◌+◌, ◌<◌, cond, List, [], ◌∷◌, length, map, refl, ap, ap₂, ◌∙◌, subst, arith, zero-add}
use Rattle.std.specs.Prelude.{nat_eq, slice_index_or}
use Rattle.std.specs.Option.{option_map_or}
use Rattle.std.specs.List.{enumerate_from}
use Rattle.jb_rules.specs.declared.row.Row.{Row}
use Rattle.jb_artifacts.specs.Meaning.{ArtifactsMeaning}
use Rattle.jb_chunk.specs.TaskState.{TaskState}
use Rattle.jb_step.specs.Answers.{artifacts_of, newer}
use Rattle.jb_step.specs.Tables.{ArePlaced, Table, held_in, held_at}
use Rattle.jb_step.specs.preparing.Setup.{row_now, rows_now}
use Rattle.jb_step.proofs.table.Looking.{look, look-at}

-- a task's row, or the prepared one
abbrev pub row_of : TaskState → Row
row_of t = t.row

-- these rows, and in their places those of the tasks
abbrev pub rows_in : List Row → Table → List Row
rows_in [] table = []
rows_in (row ∷ rows) [] = row ∷ rows
rows_in (row ∷ rows) (place ∷ table) = option_map_or row_of place row ∷ rows_in rows table

-- ONE PARTITION'S

row-is : (ts : List TaskState) (p : ℕ) (row : Row) → row_now ts p row ≡ look row_of p ts row
row-is [] p row = refl
row-is (t ∷ ts) p row = ap (λ (r : Row). cond (nat_eq t.partition p) t.row r) (row-is ts p row)

pub row-at : (table : Table) (p : ℕ) (row : Row) → ArePlaced 0 table → row_now (held_in table) p row ≡ option_map_or row_of (held_at table p) row
row-at table p row h = row-is (held_in table) p row ∙ look-at row_of p row table h

artifacts-is : (ts : List TaskState) (p : ℕ) (artifacts : ArtifactsMeaning) → newer (artifacts_of ts) p artifacts ≡ look (λ t. t.artifacts) p ts artifacts
artifacts-is [] p artifacts = refl
artifacts-is (t ∷ ts) p artifacts = ap (λ (a : ArtifactsMeaning). cond (nat_eq t.partition p) t.artifacts a) (artifacts-is ts p artifacts)

pub artifacts-at : (table : Table) (p : ℕ) (artifacts : ArtifactsMeaning) → ArePlaced 0 table → newer (artifacts_of (held_in table)) p artifacts ≡ option_map_or (λ t. t.artifacts) (held_at table p) artifacts
artifacts-at table p artifacts h = artifacts-is (held_in table) p artifacts ∙ look-at (λ t. t.artifacts) p artifacts table h

-- ALL

rows-from : (ts : List TaskState) (k : ℕ) (rows : List Row) (table : Table) → ((i : ℕ) (row : Row) → row_now ts (k + i) row ≡ option_map_or row_of (held_at table i) row)
    → map (λ (n : ℕ × Row). row_now ts n.0 n.1) (enumerate_from k rows) ≡ rows_in rows table
rows-from ts k [] table each = refl
rows-from ts k (row ∷ rows) [] each =
    ap₂ ◌∷◌ (let e : k + 0 ≡ k = omega arith in subst (λ m. row_now ts m row ≡ row) e (each zero row))
    (rows-from ts (k + 1) rows [] (λ i r. let e : k + suc i ≡ (k + 1) + i = omega arith in subst (λ m. row_now ts m r ≡ r) e (each (suc i) r)) ∙ none rows)
  where
    none : (rows : List Row) → rows_in rows [] ≡ rows
    none [] = refl
    none (r ∷ rows) = refl
rows-from ts k (row ∷ rows) (place ∷ table) each =
    ap₂ ◌∷◌ (let e : k + 0 ≡ k = omega arith in subst (λ m. row_now ts m row ≡ option_map_or row_of place row) e (each zero row))
    (rows-from ts (k + 1) rows table (λ i r. let e : k + suc i ≡ (k + 1) + i = omega arith in subst (λ m. row_now ts m r ≡ option_map_or row_of (held_at table i) r) e (each (suc i) r)))

pub rows-are : (rows : List Row) (table : Table) → ArePlaced 0 table → rows_now rows (held_in table) ≡ rows_in rows table
rows-are rows table h = rows-from (held_in table) 0 rows table (λ i row. ap (λ p. row_now (held_in table) p row) (zero-add i) ∙ row-at table i row h)

pub length-in : (rows : List Row) (table : Table) → length (rows_in rows table) ≡ length rows
length-in [] table = refl
length-in (row ∷ rows) [] = refl
length-in (row ∷ rows) (place ∷ table) = ap suc (length-in rows table)

pub in-at : (rows : List Row) (table : Table) (p : ℕ) (d : Row) → p < length rows → slice_index_or (rows_in rows table) p d ≡ option_map_or row_of (held_at table p) (slice_index_or rows p d)
in-at [] table p d lt = absurd (omega (arith, lt))
in-at (row ∷ rows) [] p d lt = refl
in-at (row ∷ rows) (place ∷ table) zero d lt = refl
in-at (row ∷ rows) (place ∷ table) (suc p) d lt = in-at rows table p d (omega (arith, lt))
