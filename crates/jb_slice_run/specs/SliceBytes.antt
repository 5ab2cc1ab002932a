-- HOW A SLICE'S CHECKPOINTS ARE STORED, as bytes (own choice).
use Rattle.std.specs.Prelude.{ℕ, ◌≡◌, ◌+◌, ◌*◌, List, length, map, Ok}
use Rattle.jb_base.specs.Pairwise.{Pairwise}
use Rattle.jb_slice_file.specs.CheckpointBytes.{CheckpointBytes}
use Rattle.jb_job.specs.Reading.{tree_of}
use Rattle.jb_slice_run.specs.Coding.{IsCodingOf}
use Rattle.jb_saved.specs.Reading.{answer_of}
use Rattle.jb_saved.specs.SavedRows.{SavedRows}
use Rattle.jb_slices.specs.Checkpoint.{Begins, Checkpoint, GoesOn, Header, Interval, Progress}
use Rattle.jb_slices.specs.Job.{Job}
use Rattle.jb_slices.specs.Slice.{Functions, IsSliceSoFar}
use Rattle.jb_slice_run.specs.HeaderText.{header_text}
use Rattle.jb_slice_run.specs.Strings.{AreLimitsSmall, AreOutputsSmall, IsHeaderSmall, all_new_output, header_lists, interval_lists}

-- A HEADER: its text, and the coding of its ten lists
pub record IsHeaderStored (h : Header) (kept : CheckpointBytes) : Type 0 where
  pub small : IsHeaderSmall h
  pub text : kept.saved ≡ header_text h
  pub lists : IsCodingOf kept.results 10 (header_lists h)

-- how many lists an interval of this many partitions has
abbrev pub lists_of : (partitions : ℕ) → ℕ
lists_of partitions = 1 + 3 * partitions

-- AN INTERVAL: the saved text of its rows, and the coding of its lists
pub record IsIntervalStored (i : Interval) (kept : CheckpointBytes) : Type 0 where
  pub small : AreLimitsSmall i.limits
  pub new_output_small : AreOutputsSmall (all_new_output i.partitions)
  pub held : SavedRows
  pub read : answer_of (tree_of kept.saved) ≡ Ok held
  pub rows : held.rows ≡ map (λ (p : Progress). p.row) i.partitions
  pub lists : IsCodingOf kept.results (lists_of (length i.partitions)) (interval_lists i.limits (all_new_output i.partitions))

-- A CHECKPOINT is stored as these bytes
abbrev pub IsStoredAs : Checkpoint → CheckpointBytes → Type 0
IsStoredAs (Begins h) kept = IsHeaderStored h kept
IsStoredAs (GoesOn i) kept = IsIntervalStored i kept

abbrev pub AreStoredAs : List Checkpoint → List CheckpointBytes → Type 0
AreStoredAs cs all = Pairwise IsStoredAs cs all

-- THESE BYTES STORE A SLICE so far: of this job, with this number and these items
pub record KeepsSlice (job : Job) (functions : Functions) (number : ℕ) (items : List (List ℕ)) (all : List CheckpointBytes) : Type 0 where
  pub checkpoints : List Checkpoint
  pub stored_as : AreStoredAs checkpoints all
  pub so_far : IsSliceSoFar job functions number items checkpoints
