-- What a run of a slice works on, and where its work is over a connection.
use Rattle.std.specs.Prelude.{ℕ, ◌≡◌, ◌≤◌, ◌⊎◌, Bool, List, length, IsTrue, ⊤}
use Rattle.sqlite.specs.State.{HasCleanDisk, State}
use Rattle.sqlite_disk.specs.Disk.{MoreFaults}
use Rattle.sqlite_trees.specs.View.{doubt}
use Rattle.jb_records.specs.PartitionResults.{AreAtTheirEnds}
use Rattle.jb_records.specs.Intervals.{RunState}
use Rattle.jb_rules.specs.declared.row.Row.{Row}
use Rattle.jb_slice_file.specs.Connections.{IsJustOpened, Keeps}
use Rattle.jb_slice_file.specs.CheckpointBytes.{CheckpointBytes}
use Rattle.jb_slice_file.specs.ListEnd.{IsEndOf}
use Rattle.jb_slice_file.specs.Rows.{ShowsList}
use Rattle.jb_slice_file.specs.declared.list_end.ListEnd.{ListEnd}
use Rattle.jb_slices.specs.Function.{Function}
use Rattle.jb_slices.specs.Job.{Job, Limits}
use Rattle.jb_slices.specs.Slice.{Functions}
use Rattle.jb_slice_run.specs.Held.{limits_in}
use Rattle.jb_slice_run.specs.Jobs.{job_in, stamps_in}
use Rattle.jb_slice_run.specs.SliceBytes.{KeepsSlice}
use Rattle.jb_slice_run.specs.Named.{Faults, HoldsFaults}
use Rattle.jb_slice_run.specs.Step.{AreStampsOf}
use Rattle.jb_slice_run.specs.Whole.{KeepsFailed, KeepsWhole}
use Rattle.jb_slice_run.specs.Work.{GoesBy, StatusMatchesRows, SliceStandsAt}
use Rattle.jb_slice_run.specs.declared.job.SliceJob.{SliceJob}
use Rattle.jb_slice_run.specs.declared.resumable_run.Stage.{Stage}
use Rattle.jb_slice_run.specs.declared.resumable_run.Stage.TheVariants.{SomeIntervals}
use Rattle.jb_slice_run.specs.declared.durable.loop_end.LoopEnd.{LoopEnd}
use Rattle.jb_slice_run.specs.declared.durable.loop_end.LoopEnd.TheVariants.{Failed, Intervals, Whole}

-- what a run works on: its job and limits, its function and that of each stamp, and the slice's number and items
pub record SliceInput : Type 0 where
  pub job : Job
  pub functions : Functions
  pub f : Function
  pub limits : Limits
  pub number : ℕ
  pub items : List (List ℕ)

abbrev pub slice_input_of : SliceJob → Functions → Function → (number : ℕ) → (items : List (List ℕ)) → SliceInput
slice_input_of j functions f number items = record { job = job_in j; functions = functions; f = f; limits = limits_in j.limits; number = number; items = items }

-- these checkpoints store its slice so far, or whole, or failed under its limits
abbrev pub SoFar : SliceInput → List CheckpointBytes → Type 0
SoFar w all = KeepsSlice w.job w.functions w.number w.items all

abbrev pub IsWhole : SliceInput → List CheckpointBytes → Type 0
IsWhole w all = KeepsWhole w.job w.functions w.limits w.number w.items all

abbrev pub IsFailed : SliceInput → List CheckpointBytes → Type 0
IsFailed w all = KeepsFailed w.job w.functions w.limits w.number w.items all

-- ---- WHAT A CALL FINDS

-- a connection that was just opened shows these checkpoints, and its disk is clean to the end of the call
pub record IsShown (old new : State) (all : List CheckpointBytes) : Type 0 where
  pub clean : HasCleanDisk new
  pub opened : IsJustOpened old
  pub shows : ShowsList old.now all

abbrev pub IfShown : (old new : State) → (List CheckpointBytes → Type 0) → Type 0
IfShown old new Holds = (all : List CheckpointBytes) → IsShown old new all → Holds all

-- they are those of the slice so far, for a meaning of stamps that gives this function to the job's own stamps
pub record IsResumed (w : SliceInput) (stamps : List (List ℕ)) (old new : State) (all : List CheckpointBytes) : Type 0 where
  pub shown : IsShown old new all
  pub stamps_are : AreStampsOf w.functions w.f stamps
  pub so_far : SoFar w all

-- IF A SLICE IS RESUMED, this holds for its input and its checkpoints, for any meaning of other stamps
abbrev pub IfResumed : SliceJob → Function → (number : ℕ) → (items : List (List ℕ)) → (old new : State) → (SliceInput → List CheckpointBytes → Type 0) → Type 0
IfResumed job f number items old new Holds =
    (functions : Functions) (all : List CheckpointBytes) → IsResumed (slice_input_of job functions f number items) (stamps_in job) old new all → Holds (slice_input_of job functions f number items) all

-- A LATER STATE of a connection. No fault of its disk and no doubt about it is taken back. What was open is open, or a call of the disk failed since.
pub record IsLater (old new : State) : Type 0 where
  pub counts : old.faults ≤ new.faults
  pub clean : doubt old.is_clean ≤ doubt new.is_clean
  pub shut : HasCleanDisk new → IsTrue old.is_open → IsTrue new.is_open ⊎ MoreFaults old.faults new.faults

-- ---- WHERE THE WORK STANDS

-- what contracts see of a slice's run in memory
pub record Seen : Type 0 where
  pub has_failed : Bool
  pub stage : Stage
  pub run : RunState
  pub rows : List Row
  pub faults : List Faults

-- its status matches its rows
abbrev pub SeenMatchesRows : Seen → Type 0
SeenMatchesRows at = StatusMatchesRows at.has_failed at.stage at.run at.rows

-- The run in memory is after these checkpoints, and has their faults. If the slice has failed, the last checkpoint has the call's limits.
pub record StandsAfter (w : SliceInput) (at : Seen) (all : List CheckpointBytes) : Type 0 where
  pub place : SliceStandsAt w.job w.functions w.f w.limits w.number w.items at.stage at.run at.rows all
  pub faults : HoldsFaults at.faults all
  pub by : IsTrue at.has_failed → GoesBy w.limits all

-- the connection holds the checkpoints of the slice so far, which end here, and the run in memory is after them
pub record FileMatchesMemory (w : SliceInput) (s : State) (at : Seen) (end : ListEnd) (all : List CheckpointBytes) : Type 0 where
  pub keeps : Keeps s all
  pub so_far : SoFar w all
  pub stands : StandsAfter w at all
  pub ends : IsEndOf end all

-- if the file matches the memory as a call begins, this holds
abbrev pub IfFileMatchesMemory : SliceJob → Function → (number : ℕ) → (items : List (List ℕ)) → (old new : State) → Seen → ListEnd → (SliceInput → List CheckpointBytes → Type 0) → Type 0
IfFileMatchesMemory job f number items old new at end Holds =
    HasCleanDisk new → (functions : Functions) (all : List CheckpointBytes) → FileMatchesMemory (slice_input_of job functions f number items) old at end all → Holds (slice_input_of job functions f number items) all

-- ---- WHERE THE INTERVALS ENDED

-- If the intervals ended with `Whole`, each partition is at its end, and an interval is stored. If they ended with `Failed`, the slice has failed.
abbrev pub EndsAs : Seen → LoopEnd → Type 0
EndsAs at Whole = (at.stage ≡ SomeIntervals) × AreAtTheirEnds at.run.setup.rows
EndsAs at Failed = IsTrue at.has_failed
EndsAs at _ = ⊤

pub record LoopEndMatchesRows (at : Seen) (loop_end : LoopEnd) : Type 0 where
  pub agrees : SeenMatchesRows at
  pub ends : EndsAs at loop_end

-- The file matches the memory after these checkpoints. If the intervals ended with `Intervals`, there are at least as many as were asked for.
pub record HasRun (w : SliceInput) (s : State) (at : Seen) (loop_end : LoopEnd) (intervals : ℕ) : Type 0 where
  pub all : List CheckpointBytes
  pub end : ListEnd
  pub rests : FileMatchesMemory w s at end all
  pub cut : loop_end ≡ Intervals → intervals ≤ length all
