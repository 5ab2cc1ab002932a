-- A row as texts list it: its numbers, in this order, and the name of its state (own choice).
use Rattle.std.specs.Prelude.{ℕ, List, [], ◌∷◌, slice_index, codes, bytes_eq, Option, Some, None, if◌then◌else◌}
use Rattle.jb_rules.specs.declared.row.Row.{Row}
use Rattle.jb_rules.specs.declared.row.RowState.{RowState}
use Rattle.jb_rules.specs.declared.row.RowState.TheVariants.{Waiting, Running, Finished, Failed}

-- the numbers of a row, fifteen of them
abbrev pub numbers_of : Row → List ℕ
numbers_of r =
    r.lo ∷ r.hi ∷ r.at ∷ r.redo ∷ r.retries ∷ r.written
    ∷ r.counts.read ∷ r.counts.write ∷ r.counts.commit ∷ r.counts.rollback
    ∷ r.counts.read_skip ∷ r.counts.process_skip ∷ r.counts.filter ∷ r.counts.write_skip
    ∷ r.in_place ∷ []

-- the row of these numbers, in the same order, and of this state; a number that isn't there is 0
abbrev pub row_of_numbers : List ℕ → RowState → Row
row_of_numbers ns state = record {
  lo = slice_index ns 0;
  hi = slice_index ns 1;
  at = slice_index ns 2;
  redo = slice_index ns 3;
  retries = slice_index ns 4;
  written = slice_index ns 5;
  counts = record {
    read = slice_index ns 6;
    write = slice_index ns 7;
    commit = slice_index ns 8;
    rollback = slice_index ns 9;
    read_skip = slice_index ns 10;
    process_skip = slice_index ns 11;
    filter = slice_index ns 12;
    write_skip = slice_index ns 13;
  };
  in_place = slice_index ns 14;
  state = state;
}

-- the name of a state
abbrev pub state_name : RowState → List ℕ
state_name Waiting = codes "waiting"
state_name (Running lane) = codes "running"
state_name Finished = codes "done"
state_name Failed = codes "failed"

-- the state of this name; a running partition's name gives no state, since it doesn't say on which lane
abbrev pub state_named : List ℕ → Option RowState
state_named name =
    if bytes_eq name (state_name Waiting) then Some Waiting
    else (if bytes_eq name (state_name Finished) then Some Finished
    else (if bytes_eq name (state_name Failed) then Some Failed else None))
