-- What holds of each step of a row, of its numbers, and of the tests of a row and of a chunk's counts.
use Rattle.std.specs.Prelude.{ℕ, ◌≡◌, ◌+◌, ◌-◌, ◌<◌, ◌≤◌, ◌↔◌, true, List, length, take}
use Rattle.jb_base.specs.declared.range.Range.{Range}
use Rattle.jb_base.specs.Limits.{max_records, max_rollbacks, max_in_place}
use Rattle.jb_rules.specs.declared.counts.Counts.{Counts}
use Rattle.jb_rules.specs.declared.row.Row.{Row}
use Rattle.jb_rules.specs.declared.row.RowState.{RowState}
use Rattle.jb_rules.specs.declared.row.RowState.TheVariants.{Finished}
use Rattle.jb_rules.specs.Counts.{IsDelta, is_delta}
use Rattle.jb_rules.specs.Numbers.{numbers_of, row_of_numbers}
use Rattle.jb_rules.specs.Rows.{fresh_row, begun_row, repeated_row, committed_row, rolled_row, failed_row, dropped_row}
use Rattle.jb_rules.specs.RowTest.{is_sound}
use Rattle.jb_rules.specs.Sound.{IsSoundRow}

-- the row rules hold from the beginning, and each step keeps them
pub record RowsStaySound : Type 0 where
  pub fresh : (r : Range) → r.lo ≤ r.hi → r.hi ≤ max_records → IsSoundRow (fresh_row r)
  pub begun : (row : Row) (lane : ℕ) → IsSoundRow row → row.at < row.hi → IsSoundRow (begun_row row lane)
  pub repeated : (row : Row) (again : ℕ) → IsSoundRow row → row.in_place + again ≤ max_in_place → IsSoundRow (repeated_row row again)
  pub committed :
      (row : Row) (at : ℕ) (delta : Counts) → IsSoundRow row → row.at < at → at ≤ row.hi → IsDelta (at - row.at) delta
      → IsSoundRow (committed_row row at delta)
  pub rolled :
      (row : Row) (end : ℕ) → IsSoundRow row → end ≤ row.hi → row.counts.rollback < max_rollbacks → IsSoundRow (rolled_row row end)
  pub failed : (row : Row) → IsSoundRow row → row.at < row.hi → row.counts.rollback < max_rollbacks → IsSoundRow (failed_row row)
  pub dropped : (row : Row) → IsSoundRow row → row.at < row.hi → IsSoundRow (dropped_row row)

-- a row that isn't finished has a record left
abbrev pub UnfinishedRowsGoOn : Type 0
UnfinishedRowsGoOn = (row : Row) → IsSoundRow row → (row.state ≡ Finished → ⊥) → row.at < row.hi

-- the test of a row is right
abbrev pub RowsAreTested : Type 0
RowsAreTested = (row : Row) → (is_sound row ≡ true) ↔ IsSoundRow row

-- a row is rebuilt from its numbers and its state, and a row made of numbers has these numbers
pub record NumbersMakeRows : Type 0 where
  pub row : (r : Row) → row_of_numbers (numbers_of r) r.state ≡ r
  pub numbers : (ns : List ℕ) (state : RowState) → length ns ≤ 15 → take (length ns) (numbers_of (row_of_numbers ns state)) ≡ ns

-- the test of what a chunk adds is right
abbrev pub DeltasAreTested : Type 0
DeltasAreTested = (records : ℕ) (delta : Counts) → (is_delta records delta ≡ true) ↔ IsDelta records delta
