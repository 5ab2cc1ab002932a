-- Why a slice has no end, isn't resumed, or has no next checkpoint.
use Rattle.std.specs.Prelude.{ℕ, ◌≡◌, ◌≤◌, ◌<◌, ◌⊎◌, ◌+◌, ◌-◌, ◌^◌, false, List, [], ◌∷◌, ◌++◌, length, None, Some, ⊤}
use Rattle.sqlite_disk.specs.Disk.{MoreFaults}
use Rattle.sqlite.specs.State.{State}
use Rattle.jb_records.specs.declared.error.RecordsStepError.{RecordsStepError}
use Rattle.jb_records.specs.declared.step.RecordsStep.{RecordsStep}
use Rattle.jb_records.specs.Causes.{Call, Explains as ExplainsStep, OfEach, RunInterval}
use Rattle.jb_records.specs.Function.{steady}
use Rattle.jb_slice_run.specs.Coding.{AreCodable}
use Rattle.jb_slice_file.specs.CheckpointBytes.{CheckpointBytes}
use Rattle.jb_slice_file.specs.Rows.{IsTooLong}
use Rattle.jb_slice_file.specs.declared.error.StoreError.{StoreError}
use Rattle.jb_slice_file.specs.declared.error.StoreError.TheVariants as store
use Rattle.jb_slices.specs.Checkpoint.{Begins, Checkpoint, GoesOn, Header, Interval}
use Rattle.jb_slices.specs.Function.{Function}
use Rattle.jb_slices.specs.Job.{AreRaised, Job, Limits, first_of}
use Rattle.jb_slices.specs.Slice.{Functions, IsNext, slice_state}
use Rattle.jb_slice_run.specs.Held.{limits_in}
use Rattle.jb_slice_run.specs.Jobs.{job_in, kept_stamps, own_header}
use Rattle.jb_slice_run.specs.SliceBytes.{AreStoredAs, IsStoredAs, KeepsSlice}
use Rattle.jb_slice_run.specs.Refusals.{IsHeaderCause, IsOwn}
use Rattle.jb_slice_run.specs.Step.{IsStepOfSlice}
use Rattle.jb_slice_run.specs.Strings.{all_new_output, header_lists, interval_lists}
use Rattle.jb_slice_run.specs.Work.{AreItemsShort}
use Rattle.jb_slice_run.specs.durable.Work.{SliceInput, SoFar}
use Rattle.jb_slice_run.specs.declared.error.SliceError.{SliceError}
use Rattle.jb_slice_run.specs.declared.error.SliceError.TheVariants.{Store, Step, OtherJob, OtherSlice, OtherItems, OtherStamp, LoweredLimit, Damaged, TooLong, NoNumbers, TooMany, Stopped, Memory}
use Rattle.jb_slice_run.specs.declared.job.SliceJob.{SliceJob}
use Rattle.jb_slice_run.specs.declared.durable.loop_end.LoopEnd.{LoopEnd}
use Rattle.jb_slice_run.specs.declared.durable.loop_end.LoopEnd.TheVariants.{Intervals}

-- ---- AN INTERVAL

-- an interval that may follow has no bytes: one of its strings is too long, or there are too many
pub record HasNoBytes (job : Job) (functions : Functions) (number : ℕ) (items : List (List ℕ)) (all : List CheckpointBytes) : Type 0 where
  pub checkpoints : List Checkpoint
  pub stored_as : AreStoredAs checkpoints all
  pub interval : Interval
  pub follows : IsNext job functions number items (slice_state checkpoints) (GoesOn interval)
  pub long : AreCodable (interval_lists interval.limits (all_new_output interval.partitions)) → ⊥

-- the number after the slice's last item isn't below 2^64
abbrev pub AreTooMany : Job → (number items : ℕ) → Type 0
AreTooMany job number items = 2 ^ 64 ≤ first_of job number + items

-- so has one after some checkpoints of the slice so far
abbrev pub HasNoBytesSoFar : SliceInput → Type 0
HasNoBytesSoFar w = (all : List CheckpointBytes) × SoFar w all × HasNoBytes w.job w.functions w.number w.items all

-- ---- A SLICE THAT ISN'T RESUMED

-- the first checkpoint is refused for this reason, for each header that it may store
abbrev pub IsRefusedBy : (own : Header) → (stamps : List (List ℕ)) → List CheckpointBytes → SliceError → Type 0
IsRefusedBy own stamps [] e = ⊥
IsRefusedBy own stamps (first ∷ later) e = (h : Header) → IsStoredAs (Begins h) first → IsHeaderCause own stamps h e

-- the first checkpoint, if there is one, is our own
abbrev pub IsFirstOwn : (own : Header) → (stamps : List (List ℕ)) → List CheckpointBytes → Type 0
IsFirstOwn own stamps [] = ⊤
IsFirstOwn own stamps (first ∷ later) = (h : Header) → IsStoredAs (Begins h) first → IsOwn own stamps h

-- a limit is lower than that of the last checkpoint of such a slice
abbrev pub HasLower : Job → (number : ℕ) → (items : List (List ℕ)) → Limits → List CheckpointBytes → Type 0
HasLower job number items limits all = (functions : Functions) (keeps : KeepsSlice job functions number items all) → AreRaised (slice_state keeps.checkpoints).limits limits → ⊥

-- they store no slice of this job with this number and these items
abbrev pub AreDamaged : Job → (number : ℕ) → (items : List (List ℕ)) → List CheckpointBytes → Type 0
AreDamaged job number items all = (functions : Functions) → KeepsSlice job functions number items all → ⊥

-- its own header has no bytes
abbrev pub IsHeaderLong : (own : Header) → (items : List (List ℕ)) → Type 0
IsHeaderLong own items = (AreItemsShort items → ⊥) ⊎ (AreCodable (header_lists own) → ⊥)

-- why the step can't start: after the last interval if one is stored, else at the first items
pub record IsUnbegunAfter (f : Function) (step : RecordsStep) (items : List (List ℕ)) (all : List CheckpointBytes) (why : RecordsStepError) : Type 0 where
  pub before : List CheckpointBytes
  pub last : CheckpointBytes
  pub last_is : all ≡ before ++ last ∷ []
  pub partition_results : List (List (List ℕ))
  pub cause : ExplainsStep (Call (steady f) step items (Some (last.saved, OfEach partition_results))) why

pub record IsUnbegun (job : SliceJob) (f : Function) (items : List (List ℕ)) (all : List CheckpointBytes) (why : RecordsStepError) : Type 0 where
  pub step : RecordsStep
  pub step_is : IsStepOfSlice (job_in job) (limits_in job.limits) job.threads step
  pub cause : ExplainsStep (Call (steady f) step items None) why ⊎ IsUnbegunAfter f step items all why

-- ---- THE FILE

-- Why the file doesn't list its checkpoints, or doesn't take one more. A call of the disk has failed since, the connection was shut before, or
-- the checkpoint is too long. Out of memory and other reasons of SQLite may come too. A file that shows its checkpoints isn't refused as one of
-- another kind.
abbrev pub IsFileCause : State → State → (is_too_long : Type 0) → StoreError → Type 0
IsFileCause old new is_too_long store.Damaged = MoreFaults old.faults new.faults
IsFileCause old new is_too_long store.Full = MoreFaults old.faults new.faults
IsFileCause old new is_too_long store.Disk = MoreFaults old.faults new.faults
IsFileCause old new is_too_long store.Shut = (old.is_open ≡ false) ⊎ MoreFaults old.faults new.faults
IsFileCause old new is_too_long store.TooLong = is_too_long
IsFileCause old new is_too_long store.Memory = ⊤
IsFileCause old new is_too_long (store.Sql e) = ⊤
IsFileCause old new is_too_long _ = ⊥

-- a checkpoint of the slice so far is longer than a row of the table may be
pub record HasALongOne (w : SliceInput) : Type 0 where
  pub before : List CheckpointBytes
  pub next : CheckpointBytes
  pub so_far : SoFar w (before ++ next ∷ [])
  pub long : IsTooLong next

-- the slice so far has used each number that a checkpoint may have
pub record HasEachNumber (w : SliceInput) : Type 0 where
  pub all : List CheckpointBytes
  pub so_far : SoFar w all
  pub full : 2 ^ 32 - 1 ≤ length all

-- ---- ALL OF THEM

-- where the stored checkpoints come from: they were given, or listed from a file, which was so before and after the call
pub data Source : Type 1 where
  InMemory : Source
  OfFile : (old new : State) → Source

-- WHAT A CALL DOES, with what it was given
pub data Phase : Type 1 where
  -- it resumes the slice with this number and these items after these checkpoints
  Resuming : SliceJob → Function → (number : ℕ) → (items : List (List ℕ)) → Source → List CheckpointBytes → Phase
  -- it adds one interval: to a run of which nothing is known, or after these checkpoints of the slice so far
  AnyInterval : Phase
  NextInterval : Job → Functions → (number : ℕ) → (items : List (List ℕ)) → List CheckpointBytes → Phase
  -- it collects how the slice ended, after its intervals ended in this way
  Ending : LoopEnd → Phase
  -- it does all this for a slice so far, and appends each interval to the file
  RunningSlice : SliceJob → SliceInput → (old new : State) → List CheckpointBytes → Phase

-- WHY A CALL HAS NO ANSWER, error by error. A call has no other errors than those that are listed for what it does.
abbrev pub Explains : Phase → SliceError → Type 0
-- any call may be out of memory
Explains phase Memory = ⊤
-- the file doesn't list its checkpoints, or doesn't take one more
Explains (Resuming job f number items (OfFile old new) all) (Store e) = IsFileCause old new ⊥ e
Explains (RunningSlice job w old new all) (Store e) = IsFileCause old new (HasALongOne w) e
-- the step can't start, or broke off
Explains (Resuming job f number items source all) (Step why) = IsUnbegun job f items all why
Explains AnyInterval (Step why) = ⊤
Explains (NextInterval job functions number items all) (Step why) = ExplainsStep RunInterval why
Explains (RunningSlice job w old new all) (Step why) = IsUnbegun job w.f w.items all why ⊎ ExplainsStep RunInterval why
-- the stored header isn't our own; that of a slice so far can have another stamp, and no other difference
Explains (Resuming job f number items source all) (OtherJob part) = IsRefusedBy (own_header job number items) (kept_stamps job) all (OtherJob part)
Explains (Resuming job f number items source all) OtherSlice = IsRefusedBy (own_header job number items) (kept_stamps job) all OtherSlice
Explains (Resuming job f number items source all) OtherItems = IsRefusedBy (own_header job number items) (kept_stamps job) all OtherItems
Explains (Resuming job f number items source all) OtherStamp = IsRefusedBy (own_header job number items) (kept_stamps job) all OtherStamp
Explains (RunningSlice job w old new all) OtherStamp = IsRefusedBy (own_header job w.number w.items) (kept_stamps job) all OtherStamp
-- a limit is lower than the stored one
Explains (Resuming job f number items source all) LoweredLimit = HasLower (job_in job) number items (limits_in job.limits) all
Explains (RunningSlice job w old new all) LoweredLimit = HasLower (job_in job) w.number w.items (limits_in job.limits) all
-- what is stored is no slice of this job
Explains (Resuming job f number items source all) Damaged = AreDamaged (job_in job) number items all
-- a checkpoint has no bytes: the slice's own header, or an interval
Explains (Resuming job f number items source all) TooLong = IsHeaderLong (own_header job number items) items
Explains AnyInterval TooLong = ⊤
Explains (NextInterval job functions number items all) TooLong = HasNoBytes job functions number items all
Explains (RunningSlice job w old new all) TooLong = IsHeaderLong (own_header job w.number w.items) w.items ⊎ HasNoBytesSoFar w
-- there are no numbers for its items
Explains AnyInterval NoNumbers = ⊤
Explains (NextInterval job functions number items all) NoNumbers = AreTooMany job number (length items)
Explains (RunningSlice job w old new all) NoNumbers = AreTooMany w.job w.number (length w.items)
-- there are no numbers for its checkpoints
Explains (Resuming job f number items (OfFile old new) all) TooMany = 2 ^ 32 - 1 < length all
Explains (Ending loop_end) TooMany = loop_end ≡ Intervals
Explains (RunningSlice job w old new all) TooMany = HasEachNumber w
-- the listener stopped it: no contract says what a listener answers
Explains (Ending loop_end) Stopped = ⊤
Explains (RunningSlice job w old new all) Stopped = ⊤
Explains phase e = ⊥
