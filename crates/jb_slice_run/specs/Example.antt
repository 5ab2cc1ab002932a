-- A slice of two items that fails, and its bytes.
use Rattle.std.specs.Prelude.{ℕ, List, [], ◌∷◌, Some, codes, map}
use Rattle.serde_json.specs.Written.{compact_text}
use Rattle.jb_slice_file.specs.CheckpointBytes.{CheckpointBytes}
use Rattle.jb_slice_run.specs.Coding.{coded}
use Rattle.jb_rules.specs.declared.row.RowState.TheVariants.{Failed}
use Rattle.jb_saved.specs.SavedRows.{SavedRows}
use Rattle.jb_saved.specs.SavedTree.{saved_tree}
use Rattle.jb_saved.specs.Worked.{row}
use Rattle.jb_slices.specs.Checkpoint.{Header, Interval, Progress, header_of}
use Rattle.jb_slices.specs.Example.{example_job, fault_of_nine, item_of, limits_of, one_function}
use Rattle.jb_slice_run.specs.HeaderText.{header_text}
use Rattle.jb_slice_run.specs.SliceBytes.{KeepsSlice}
use Rattle.jb_slice_run.specs.Strings.{all_new_output, header_lists, interval_lists}

abbrev pub two : List (List ℕ)
two = item_of 1 ∷ item_of 9 ∷ []

abbrev pub failed_header : Header
failed_header = header_of example_job (limits_of 0) [] 0 two

-- one partition, which has the first item's result and failed at the second item
abbrev pub failed_partitions : List Progress
failed_partitions = record { row = row 0 2 1 0 1 1 Failed; results = item_of 1 ∷ []; skips = []; stop = Some fault_of_nine } ∷ []

abbrev pub failed_interval : Interval
failed_interval = record { limits = limits_of 0; partitions = failed_partitions }

abbrev pub failed_rows : SavedRows
failed_rows = record { step = codes "s"; rows = map (λ (p : Progress). p.row) failed_partitions }

-- their bytes
abbrev pub failed_stored : List CheckpointBytes
failed_stored =
    record { saved = header_text failed_header; results = coded (header_lists failed_header) }
    ∷ record { saved = compact_text (saved_tree failed_rows); results = coded (interval_lists (limits_of 0) (all_new_output failed_partitions)) }
    ∷ []

abbrev pub SomeAreStored : Type 0
SomeAreStored = KeepsSlice example_job one_function 0 two failed_stored
