-- The steps of a row: how a partition begins, and what each step changes in its row.
use Rattle.std.specs.Prelude.{ℕ, ◌+◌, ◌==◌, if◌then◌else◌, max}
use Rattle.jb_base.specs.declared.range.Range.{Range}
use Rattle.jb_plan.specs.Blocks.{next_block, left}
use Rattle.jb_rules.specs.declared.counts.Counts.{Counts}
use Rattle.jb_rules.specs.declared.row.Row.{Row}
use Rattle.jb_rules.specs.declared.row.RowState.{RowState}
use Rattle.jb_rules.specs.declared.row.RowState.TheVariants.{Waiting, Running, Finished, Failed}
use Rattle.jb_rules.specs.Counts.{no_counts, plus_counts, rolled_counts}

-- the state of a row that no lane runs and whose next record is `at`
abbrev pub state_at : (at hi : ℕ) → RowState
state_at at hi = if at == hi then Finished else Waiting

-- the row of a partition that has not started
abbrev pub fresh_row : Range → Row
fresh_row r = record {
  lo = r.lo;
  hi = r.hi;
  at = r.lo;
  redo = r.lo;
  retries = 0;
  written = 0;
  counts = no_counts;
  in_place = 0;
  state = state_at r.lo r.hi;
}

-- the records of the row's partition
abbrev pub range_of : Row → Range
range_of row = record { lo = row.lo; hi = row.hi }

-- the row's next chunk
abbrev pub row_block : (item_count : ℕ) → Row → Range
row_block item_count row = next_block row.at row.redo row.hi item_count

-- how many chunks a row has left; 0 unless the partition waits
abbrev pub remaining_of : ℕ → Row → RowState → ℕ
remaining_of item_count row Waiting = left row.at row.redo row.hi item_count
remaining_of item_count row _ = 0

-- the row when a lane begins its next chunk
abbrev pub begun_row : Row → (lane : ℕ) → Row
begun_row row lane = record row { state = Running lane }

-- the row after so many calls of its chunk were repeated in place: each repeat is a retry
abbrev pub repeated_row : Row → (again : ℕ) → Row
repeated_row row again = record row { retries = row.retries + again; in_place = row.in_place + again }

-- the row after a chunk that ends at `at` was committed
abbrev pub committed_row : Row → (at : ℕ) → Counts → Row
committed_row row at delta = record row {
  at = at;
  written = row.written + delta.write;
  counts = plus_counts row.counts delta;
  state = state_at at row.hi;
}

-- the row after a chunk that ends at `end` was rolled back and is to be retried record by record; its state stays
abbrev pub rolled_row : Row → (end : ℕ) → Row
rolled_row row end = record row {
  redo = max row.redo end;
  retries = row.retries + 1;
  counts = rolled_counts row.counts;
}

-- the row after a chunk failed, which is rolled back too
abbrev pub failed_row : Row → Row
failed_row row = record row { counts = rolled_counts row.counts; state = Failed }

-- the row that waits again, after its chunk was given up and nothing of it was done
abbrev pub dropped_row : Row → Row
dropped_row row = record row { state = Waiting }

-- the faults that the partition skipped in committed chunks
abbrev pub skips_of : Row → ℕ
skips_of row = row.counts.read_skip + row.counts.process_skip + row.counts.write_skip
