-- What holds of each row, over a run of the step.
use Rattle.std.proofs.Common.{ℕ, ◌+◌, Bool, true, false, cond, List, [], ◌∷◌, map, sym, subst}
use Rattle.std.specs.Prelude.{nat_eq}
use Rattle.std.specs.List.{AllByRecursion, enumerate_from}
use Rattle.jb_base.specs.Pairwise.{Pairwise}
use Rattle.jb_chunk.specs.TaskState.{TaskState}
use Rattle.jb_rules.specs.declared.row.Row.{Row}
use Rattle.jb_step.specs.Alone.{AreOnTheWay}
use Rattle.jb_step.specs.preparing.Setup.{row_now}
use Rattle.jb_records.specs.Runs.{PartsStay}

module _ (P : Row → Type 0) where
  -- what held of a row still holds
  abbrev pub Stays : Row → Row → Type 0
  Stays row now = P row → P now

  stays-by : (b : Bool) (first now row other : Row) → Stays first now → Stays row other → Stays (cond b first row) (cond b now other)
  stays-by true first now row other is others = is
  stays-by false first now row other is others = others

  -- of each task's row
  abbrev pub TasksStay : List TaskState → List TaskState → Type 0
  TasksStay ts now = Pairwise (λ (t x : TaskState). Stays t.row x.row) ts now

  -- so of the row of each partition
  row-stays : PartsStay → (ts now : List TaskState) (p : ℕ) (row : Row) → AreOnTheWay ts now → TasksStay ts now → Stays (row_now ts p row) (row_now now p row)
  row-stays parts [] [] p row ways stay = λ is. is
  row-stays parts [] (x ∷ xs) p row ways stay = absurd ways
  row-stays parts (t ∷ ts) [] p row ways stay = absurd ways
  row-stays parts (t ∷ ts) (x ∷ xs) p row ways stay =
      let same = parts t x ways.0 in
      let later = row-stays parts ts xs p row ways.1 stay.1 in
      let both = stays-by (nat_eq t.partition p) t.row x.row (row_now ts p row) (row_now xs p row) stay.0 later in
      subst (λ q. Stays (cond (nat_eq t.partition p) t.row (row_now ts p row)) (cond (nat_eq q p) x.row (row_now xs p row))) (sym same.partition) both

  pub rows-stay : PartsStay → (ts now : List TaskState) (k : ℕ) (rows : List Row) → AreOnTheWay ts now → TasksStay ts now
      → AllByRecursion P (map (λ n. row_now ts n.0 n.1) (enumerate_from k rows)) → AllByRecursion P (map (λ n. row_now now n.0 n.1) (enumerate_from k rows))
  rows-stay parts ts now k [] ways stay are = tt
  rows-stay parts ts now k (row ∷ rows) ways stay are = (row-stays parts ts now k row ways stay are.0, rows-stay parts ts now (k + 1) rows ways stay are.1)
