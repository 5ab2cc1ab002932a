-- A job of three items in slices of two. The second item has a fault. The job fails if no skip is allowed, and a raised limit lets it continue.
use Rattle.std.specs.Prelude.{ℕ, zero, suc, ◌==◌, if◌then◌else◌, List, [], ◌∷◌, ◌++◌, Some, None, slice_index, slice_index_or}
use Rattle.jb_base.specs.declared.class.ClassId.{ClassId}
use Rattle.jb_base.specs.Classes.{class_of}
use Rattle.jb_rows.specs.Answers.{Given, Refused}
use Rattle.jb_rules.specs.Counts.{no_counts}
use Rattle.jb_rules.specs.declared.row.Row.{Row}
use Rattle.jb_rules.specs.declared.row.RowState.{RowState}
use Rattle.jb_rules.specs.declared.row.RowState.TheVariants.{Failed, Finished}
use Rattle.jb_slices.specs.Checkpoint.{Begins, Checkpoint, GoesOn, header_of}
use Rattle.jb_slices.specs.Folder.{Folder, IsJobFailed, IsJobSoFar, IsJobWhole}
use Rattle.jb_slices.specs.Function.{Fault, Function}
use Rattle.jb_slices.specs.Job.{Job, Limits}
use Rattle.jb_slices.specs.Slice.{Functions}

-- an item of one field of one byte, packed
abbrev pub item_of : (byte : ℕ) → List ℕ
item_of byte = 1 ∷ byte ∷ []

abbrev pub three : List (List ℕ)
three = item_of 1 ∷ item_of 9 ∷ item_of 3 ∷ []

abbrev pub class_five : ClassId
class_five = class_of 5

-- a nine has a fault; any other item is its own result
abbrev pub but_nines : Function
but_nines fields = if slice_index (slice_index_or fields 0 []) 0 == 9 then Refused class_five else Given fields

abbrev pub one_function : Functions
one_function stamp = but_nines

abbrev pub example_job : Job
example_job = record {
  name = [];
  slice_length = 2;
  partitions = 1;
  item_count = 1;
  classes = record { names = []; skippable = 32; retryable = 0; no_rollback = 0 };
}

abbrev pub limits_of : (skips : ℕ) → Limits
limits_of skips = record { skips = Some skips; job_skips = Some 1; retries = 0 }

-- ---- checkpoints

abbrev pub row_at : (hi at skipped : ℕ) → RowState → Row
row_at hi at skipped state = record {
  lo = 0;
  hi = hi;
  at = at;
  redo = 0;
  retries = 0;
  written = 1;
  counts = record no_counts { process_skip = skipped };
  in_place = 0;
  state = state;
}

abbrev pub fault_of_nine : Fault
fault_of_nine = record { number = 1; class = class_five }

-- the first slice, with no skip allowed
abbrev pub failed_slice : List Checkpoint
failed_slice =
    Begins (header_of example_job (limits_of 0) [] 0 (item_of 1 ∷ item_of 9 ∷ []))
    ∷ GoesOn (record {
      limits = limits_of 0;
      partitions = record { row = row_at 2 1 0 Failed; results = item_of 1 ∷ []; skips = []; stop = Some fault_of_nine } ∷ [];
    })
    ∷ []

-- the same slice after a further run, with one skip allowed
abbrev pub raised_slice : List Checkpoint
raised_slice =
    failed_slice
    ++ GoesOn (record {
      limits = limits_of 1;
      partitions = record { row = row_at 2 2 1 Finished; results = []; skips = fault_of_nine ∷ []; stop = None } ∷ [];
    })
    ∷ []

abbrev pub second_slice : List Checkpoint
second_slice =
    Begins (header_of example_job (limits_of 1) [] 1 (item_of 3 ∷ []))
    ∷ GoesOn (record {
      limits = limits_of 1;
      partitions = record { row = row_at 1 1 0 Finished; results = item_of 3 ∷ []; skips = []; stop = None } ∷ [];
    })
    ∷ []

abbrev pub folder_with : (first second : List Checkpoint) → Folder
folder_with first second zero = first
folder_with first second (suc zero) = second
folder_with first second (suc (suc k)) = []

-- ---- these are there

abbrev pub SomeFail : Type 0
SomeFail = IsJobFailed example_job one_function (limits_of 0) three (folder_with failed_slice [])

abbrev pub SomeAreWhole : Type 0
SomeAreWhole = IsJobWhole example_job one_function (limits_of 1) three (folder_with raised_slice second_slice)

abbrev pub SomeAreSoFar : Type 0
SomeAreSoFar = IsJobSoFar example_job one_function three (folder_with failed_slice second_slice)
