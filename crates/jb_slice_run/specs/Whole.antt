-- Bytes that store a slice that has ended.
use Rattle.std.specs.Prelude.{ℕ, List}
use Rattle.jb_slice_file.specs.CheckpointBytes.{CheckpointBytes}
use Rattle.jb_slices.specs.Checkpoint.{Checkpoint}
use Rattle.jb_slices.specs.Job.{Job, Limits}
use Rattle.jb_slices.specs.Slice.{Functions, IsSliceFailed, IsSliceWhole}
use Rattle.jb_slice_run.specs.SliceBytes.{AreStoredAs}

-- THESE BYTES STORE A WHOLE SLICE, under these limits or lower ones
pub record KeepsWhole (job : Job) (functions : Functions) (limits : Limits) (number : ℕ) (items : List (List ℕ)) (all : List CheckpointBytes) : Type 0 where
  pub checkpoints : List Checkpoint
  pub stored_as : AreStoredAs checkpoints all
  pub whole : IsSliceWhole job functions limits number items checkpoints

-- THESE BYTES STORE A FAILED SLICE, under these limits
pub record KeepsFailed (job : Job) (functions : Functions) (limits : Limits) (number : ℕ) (items : List (List ℕ)) (all : List CheckpointBytes) : Type 0 where
  pub checkpoints : List Checkpoint
  pub stored_as : AreStoredAs checkpoints all
  pub failed : IsSliceFailed job functions limits number items checkpoints
