-- What is stored once a slice's run has ended or broken off.
use Rattle.std.specs.Prelude.{ℕ, ◌≡◌, List, length, map}
use Rattle.std.specs.List.{AllByRecursion, count_by}
use Rattle.sqlite.specs.State.{State}
use Rattle.sqlite.specs.Tree.{Trees}
use Rattle.jb_collect.specs.declared.calls.Status.TheVariants.{Completed, Failed}
use Rattle.jb_records.specs.PartitionResults.{joined}
use Rattle.jb_rules.specs.States.{is_failed}
use Rattle.jb_rules.specs.declared.row.Row.{Row}
use Rattle.jb_slice_file.specs.Connections.{Keeps}
use Rattle.jb_slice_file.specs.CheckpointBytes.{CheckpointBytes}
use Rattle.jb_slice_file.specs.Files.{HasRunCheckpoints}
use Rattle.jb_slices.specs.Checkpoint.{Checkpoint}
use Rattle.jb_slices.specs.Failures.{IsFailureOf, failures_in}
use Rattle.jb_slices.specs.Function.{Function, all_results, faults_from}
use Rattle.jb_slices.specs.Job.{first_of, rules_of}
use Rattle.jb_slices.specs.Passing.{SlicePasses}
use Rattle.jb_slices.specs.Slice as slice
use Rattle.jb_slices.specs.Slice.{IsSliceFailed, IsSliceSoFar, IsSliceWhole, slice_state, skips_in, stamp_of}
use Rattle.jb_slice_run.specs.Causes.{Explains, RunningSlice}
use Rattle.jb_slice_run.specs.Held.{faults_in}
use Rattle.jb_slice_run.specs.SliceBytes.{AreStoredAs}
use Rattle.jb_slice_run.specs.Named.{failure_in}
use Rattle.jb_slice_run.specs.Rows.{results_in, rows_in}
use Rattle.jb_slice_run.specs.durable.Work.{IsWhole, SliceInput, SoFar}
use Rattle.jb_slice_run.specs.declared.durable.end.SliceEnd.{SliceEnd}
use Rattle.jb_slice_run.specs.declared.error.SliceError.{SliceError}
use Rattle.jb_slice_run.specs.declared.job.SliceJob.{SliceJob}

-- THESE BYTES STORE A SLICE WITH THIS END: its partitions have these rows and results, it skipped these faults, and these partitions failed.
-- If it is COMPLETED, it is whole. If it is FAILED, it has failed under the call's limits.
pub record HasEnded (w : SliceInput) (end : SliceEnd) (all : List CheckpointBytes) : Type 0 where
  pub checkpoints : List Checkpoint
  pub stored_as : AreStoredAs checkpoints all
  pub so_far : IsSliceSoFar w.job w.functions w.number w.items checkpoints
  pub stamp_is : w.functions (stamp_of checkpoints) ≡ w.f
  pub rows_are : rows_in (slice_state checkpoints).partitions ≡ end.rows.items
  pub results_are : results_in (slice_state checkpoints).partitions ≡ end.results.items
  pub skips_are : faults_in end.skips.items ≡ skips_in checkpoints
  pub failures_are : map failure_in end.failures.items ≡ failures_in checkpoints
  pub whole : end.status ≡ Completed → IsSliceWhole w.job w.functions w.limits w.number w.items checkpoints
  pub failed : end.status ≡ Failed → IsSliceFailed w.job w.functions w.limits w.number w.items checkpoints

-- THE FAILED PARTITIONS of an end: one for each row that failed, with the fault by which its items fail under the rules
pub record AreFailuresOf (w : SliceInput) (end : SliceEnd) : Type 0 where
  pub each : AllByRecursion (IsFailureOf w.f (rules_of w.job w.limits) (first_of w.job w.number) w.items) (map failure_in end.failures.items)
  pub number : length end.failures.items ≡ count_by (λ (row : Row). is_failed row.state) end.rows.items

-- WHAT IS TOLD of a slice with this end. A COMPLETED one has the results of all items, and the faults of those that were skipped; each partition
-- passes. A FAILED one names the fault of each failed partition; some partition doesn't pass.
pub record Tells (w : SliceInput) (end : SliceEnd) (all : List CheckpointBytes) : Type 0 where
  pub ended : HasEnded w end all
  pub results : end.status ≡ Completed → joined end.results.items ≡ all_results w.f w.items
  pub skips : end.status ≡ Completed → faults_in end.skips.items ≡ faults_from w.f (first_of w.job w.number) w.items
  pub passes : end.status ≡ Completed → SlicePasses w.job w.limits w.f w.items
  pub failures : end.status ≡ Failed → AreFailuresOf w end
  pub fails : end.status ≡ Failed → SlicePasses w.job w.limits w.f w.items → ⊥

-- these bytes store a slice that has the results of all items
pub record HasAllResults (f : Function) (items : List (List ℕ)) (all : List CheckpointBytes) : Type 0 where
  pub checkpoints : List Checkpoint
  pub stored_as : AreStoredAs checkpoints all
  pub results : slice.results_in checkpoints ≡ all_results f items

-- a connection holds a whole slice, which has the results of all items
pub record KeepsAll (w : SliceInput) (s : State) (all : List CheckpointBytes) : Type 0 where
  pub keeps : Keeps s all
  pub whole : IsWhole w all
  pub has_all : HasAllResults w.f w.items all

-- A call breaks off with this error. The error has its cause, whatever checkpoints the run of the slice began with. A crash leaves the checkpoints of
-- the slice so far.
pub record BreaksOff (job : SliceJob) (w : SliceInput) (old new : State) (e : SliceError) : Type 0 where
  pub cause : (first : List CheckpointBytes) → Explains (RunningSlice job w old new first) e
  pub crash : (db : Trees) → new.may_leave db → HasRunCheckpoints (SoFar w) db
