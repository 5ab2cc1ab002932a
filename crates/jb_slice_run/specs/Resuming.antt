-- How a slice's run is resumed.
use Rattle.std.specs.Prelude.{ℕ, ◌≡◌, ◌≤◌, Bool, false, List, [], length}
use Rattle.jb_records.specs.Intervals.{RunState}
use Rattle.jb_rules.specs.declared.row.Row.{Row}
use Rattle.jb_slice_file.specs.CheckpointBytes.{CheckpointBytes}
use Rattle.jb_slices.specs.Checkpoint.{Begins, Header}
use Rattle.jb_slices.specs.Function.{Function}
use Rattle.jb_slices.specs.Job.{Job, Limits}
use Rattle.jb_slices.specs.Slice.{Functions}
use Rattle.jb_slice_run.specs.Causes.{IsFirstOwn}
use Rattle.jb_slice_run.specs.Held.{limits_in}
use Rattle.jb_slice_run.specs.Jobs.{job_in, kept_stamps, own_header, stamps_in}
use Rattle.jb_slice_run.specs.Named.{Faults, HoldsFaults}
use Rattle.jb_slice_run.specs.Refusals.{IsOwn}
use Rattle.jb_slice_run.specs.SliceBytes.{IsStoredAs, KeepsSlice}
use Rattle.jb_slice_run.specs.Step.{AreStampsOf}
use Rattle.jb_slice_run.specs.Work.{HasNoResults, RunsSlice, SliceStandsAt, StatusMatchesRows}
use Rattle.jb_slice_run.specs.declared.job.SliceJob.{SliceJob}
use Rattle.jb_slice_run.specs.declared.resumable_run.Stage.{Stage}
use Rattle.jb_slice_run.specs.declared.resumable_run.Stage.TheVariants.{SomeIntervals}

-- the header that these bytes store, if they store one, is our own, and the slice began with these limits
pub record IsOpened (job : SliceJob) (number : ℕ) (items : List (List ℕ)) (began : Limits) (first : CheckpointBytes) : Type 0 where
  pub own : (h : Header) → IsStoredAs (Begins h) first → IsOwn (own_header job number items) (kept_stamps job) h
  pub limits : (h : Header) → IsStoredAs (Begins h) first → h.limits ≡ began

-- the run is at the first items: it has no result, no rows of an interval and no faults
pub record HasBegun (job : Job) (f : Function) (limits : Limits) (items : List (List ℕ)) (begins : Stage) (has_failed : Bool) (stage : Stage) (s : RunState) (rows : List Row) (faults : List Faults) : Type 0 where
  pub runs : RunsSlice job f limits items s
  pub empty : HasNoResults s
  pub stage_is : stage ≡ begins
  pub none_before : rows ≡ []
  pub no_faults : faults ≡ []
  pub fresh : has_failed ≡ false
  pub agrees : StatusMatchesRows has_failed stage s rows

-- THE RUN IS RESUMED after these checkpoints, as far as they store a slice of this job with this number and these items
pub record HasResumed (job : SliceJob) (f : Function) (number : ℕ) (items : List (List ℕ)) (all : List CheckpointBytes) (has_failed : Bool) (stage : Stage) (s : RunState) (rows : List Row) (faults : List Faults) : Type 0 where
  pub stands : (functions : Functions) → AreStampsOf functions f (stamps_in job) → KeepsSlice (job_in job) functions number items all
      → SliceStandsAt (job_in job) functions f (limits_in job.limits) number items stage s rows all
  pub holds : (functions : Functions) → KeepsSlice (job_in job) functions number items all → HoldsFaults faults all
  pub agrees : StatusMatchesRows has_failed stage s rows
  pub fresh : has_failed ≡ false
  pub later : 2 ≤ length all → stage ≡ SomeIntervals
  pub own : IsFirstOwn (own_header job number items) (kept_stamps job) all
