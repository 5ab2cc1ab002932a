-- Worked rows: what the definitions give, computed apart from the code.
use Rattle.std.specs.Prelude.{◌≡◌, ℕ, [], ◌∷◌, codes, Ok, Err}
use Rattle.serde_json.specs.Data.{Data, string, object, member, no_members}
use Rattle.serde_json.specs.Written.{compact_text}
use Rattle.jb_rules.specs.declared.row.Row.{Row}
use Rattle.jb_rules.specs.declared.row.RowState.{RowState}
use Rattle.jb_rules.specs.declared.row.RowState.TheVariants.{Waiting, Finished, Failed}
use Rattle.jb_saved.specs.declared.place.SavedPlace.TheVariants.{Shape, Version, Rows, Step, Records}
use Rattle.jb_saved.specs.GoingOn.{other_step, step_faults, rows_restarted}
use Rattle.jb_saved.specs.Reading.{saved_at}
use Rattle.jb_saved.specs.SavedRows.{SavedRows}
use Rattle.jb_saved.specs.SavedTree.{rows_tree, rows_tree_in, number_tree, saved_tree, saved_tree_in}

-- a row of a partition whose results were all written, in so many chunks
abbrev pub row : (lo hi at redo written commits : ℕ) → RowState → Row
row lo hi at redo written commits state = record {
  lo = lo;
  hi = hi;
  at = at;
  redo = redo;
  retries = 0;
  written = written;
  counts = record { read = written; write = written; commit = commits; rollback = 0; read_skip = 0; process_skip = 0; filter = 0; write_skip = 0 };
  in_place = 0;
  state = state;
}

-- seven records in three partitions, item count 2, stopped after one round
abbrev pub stopped : SavedRows
stopped = record {
  step = codes "s";
  rows = row 0 3 2 0 2 1 Waiting ∷ row 3 5 5 3 2 1 Finished ∷ row 5 7 5 5 0 0 Waiting ∷ [];
}

-- the same with another first row
abbrev pub with_first : Row → SavedRows
with_first r = record stopped { rows = r ∷ row 3 5 5 3 2 1 Finished ∷ row 5 7 5 5 0 0 Waiting ∷ [] }

-- its first row with so many retries and repeats
abbrev pub with_repeats : (retries in_place : ℕ) → Row
with_repeats retries in_place = record (row 0 3 2 0 2 1 Waiting) { retries = retries; in_place = in_place }

-- a failed partition at its checkpoint: records 0 and 3 always fail in processing, one skip
abbrev pub saved_failed_row : Row
saved_failed_row = record (row 0 4 2 0 1 1 Failed) {
  counts = record { read = 2; write = 1; commit = 1; rollback = 1; read_skip = 0; process_skip = 1; filter = 0; write_skip = 0 };
}

abbrev pub failed : SavedRows
failed = record { step = codes "s"; rows = saved_failed_row ∷ row 4 6 6 4 2 1 Finished ∷ [] }

-- an object of these keys
abbrev pub keyed_tree : Data → Data → Data → Data
keyed_tree rows step version = object (member (codes "rows") rows (member (codes "step") step (member (codes "version") version no_members)))

pub record WorkedSaved : Type 0 where
  pub text :
      compact_text (saved_tree stopped)
      ≡ codes "{\"rows\":[[0,3,2,0,0,2,2,2,1,0,0,0,0,0,0,\"waiting\"],[3,5,5,3,0,2,2,2,1,0,0,0,0,0,0,\"done\"],[5,7,5,5,0,0,0,0,0,0,0,0,0,0,0,\"waiting\"]],\"step\":\"s\",\"version\":2}"
  pub read : saved_at (saved_tree stopped) ≡ Ok stopped
  -- `at`, `written`, READ and WRITE 4, past the end of 3
  pub past_end : saved_at (saved_tree (with_first (row 0 3 4 0 4 1 Waiting))) ≡ Err (Rows 0)
  -- the second range begins in the first
  pub overlap : saved_at (saved_tree (with_first (row 0 4 2 0 2 1 Waiting))) ≡ Err (Rows 1)
  -- an empty range within another overlaps nothing
  pub empty : saved_at (saved_tree (with_first (row 4 4 4 4 0 0 Finished))) ≡ Ok (with_first (row 4 4 4 4 0 0 Finished))
  -- a row that waits has a record left
  pub unfinished : saved_at (saved_tree (with_first (row 0 3 3 0 3 2 Waiting))) ≡ Err (Rows 0)
  -- another version is found before the rest of the form
  pub later : saved_at (keyed_tree (string []) (string []) (number_tree 3)) ≡ Err Version
  pub earlier : saved_at (keyed_tree (string []) (string []) (number_tree 0)) ≡ Err Version
  pub version_alone : saved_at (object (member (codes "version") (number_tree 2) no_members)) ≡ Err Shape
  -- the first version lists a number fewer, and neither has rows of the other's length
  pub first : saved_at (saved_tree_in 1 stopped) ≡ Ok stopped
  pub rows_of_the_first : saved_at (keyed_tree (rows_tree_in 1 stopped.rows) (string (codes "s")) (number_tree 2)) ≡ Err Shape
  pub rows_of_the_second : saved_at (keyed_tree (rows_tree_in 2 stopped.rows) (string (codes "s")) (number_tree 1)) ≡ Err Shape
  -- two calls were repeated in place, and no chunk was rolled back: as many retries, and no fewer
  pub repeated : saved_at (saved_tree (with_first (with_repeats 2 2))) ≡ Ok (with_first (with_repeats 2 2))
  pub not_retried : saved_at (saved_tree (with_first (with_repeats 1 2))) ≡ Err (Rows 0)
  pub not_repeated : saved_at (saved_tree (with_first (with_repeats 3 2))) ≡ Err (Rows 0)
  pub no_number : saved_at (keyed_tree (rows_tree stopped.rows) (string (codes "s")) (string (codes "1"))) ≡ Err Shape
  pub no_step : saved_at (keyed_tree (rows_tree stopped.rows) (string []) (number_tree 2)) ≡ Err Shape
  pub no_row : saved_at (keyed_tree (rows_tree []) (string (codes "s")) (number_tree 2)) ≡ Err Shape
  pub no_list : saved_at (number_tree 1) ≡ Err Shape
  pub other_key :
      saved_at (object (member (codes "rows") (rows_tree stopped.rows) (member (codes "size") (number_tree 3) (member (codes "step") (string (codes "s")) (member (codes "version") (number_tree 2) no_members)))))
      ≡ Err Shape
  -- going on: the failed row waits, and the faults come in their order
  pub restarted : rows_restarted failed ≡ record saved_failed_row { state = Waiting } ∷ row 4 6 6 4 2 1 Finished ∷ []
  pub faults : step_faults (codes "t") 5 failed ≡ Step ∷ Records ∷ []
  pub none : step_faults (codes "s") 6 failed ≡ []
  pub discarded : other_step (codes "t") failed ≡ Step ∷ []
  pub discarded_well : other_step (codes "s") failed ≡ []
