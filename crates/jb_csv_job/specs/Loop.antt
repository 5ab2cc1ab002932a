-- How far a job is between two slices.
use Rattle.std.specs.Prelude.{ℕ, suc, ◌≡◌, ◌≤◌, ◌<◌, ◌⊎◌, ◌+◌, Bool, true, false, List, [], Option, length, map, take, MatchOption, Some, ⊤}
use Rattle.std.specs.Bool.{MatchBool}
use Rattle.sqlite_wal.specs.Recovery.{Image}
use Rattle.jb_collect.specs.declared.calls.Status.TheVariants.{Completed, Failed}
use Rattle.jb_rows.specs.Fields.{Fields, packed}
use Rattle.jb_rows.specs.Places.{AreLinesFrom}
use Rattle.jb_rows.specs.Streams.{HasGivenRows, lines_of}
use Rattle.jb_rows.specs.declared.rows_reader.RowsReader.{RowsReader}
use Rattle.jb_slice_run.specs.declared.durable.end.SliceEnd.{SliceEnd}
use Rattle.jb_slice_file.specs.Files.{HoldsRun}
use Rattle.jb_slice_run.specs.Step.{AreStampsOf}
use Rattle.jb_slices.specs.Function.{Function, all_results, fault_classes}
use Rattle.jb_slices.specs.Job.{HasSlice, IsLastSlice, first_of, slice_at}
use Rattle.jb_slices.specs.Passing.{SlicePasses}
use Rattle.jb_slices.specs.Slice.{Functions}
use Rattle.jb_csv_job.specs.Job.{JobRecord, job_record}
use Rattle.jb_csv_job.specs.SliceFiles.{HoldsSlice, CanResumeJob, KeepsOwn, image_by, slice_of}
use Rattle.jb_csv_job.specs.Tasks.{TaskPasses, given_by, is_own, own_items}
use Rattle.jb_csv_job.specs.declared.run.JobEnd.{JobEnd}
use Rattle.jb_csv_job.specs.declared.tally.Seam.{Seam}
use Rattle.jb_csv_job.specs.declared.tally.Seam.TheVariants.{Ends, Gives, Keeps}
use Rattle.jb_csv_job.specs.declared.tally.Tally.{Tally}
use Rattle.jb_csv_job.specs.declared.work.Work.{Work}

-- the job of a call's work, by this function
abbrev pub job_of : Work → Function → JobRecord
job_of work function = job_record work.job.now work.asked.now function

-- ---- READ

-- the reader has given the records of the slices before this one, of these, and there is such a slice
pub record StandsBefore {R : Type 0} (job : JobRecord) (remaining : R → Option (List ℕ)) (text : List ℕ) (records : List Fields) (number : ℕ) (reader : RowsReader R) : Type 0 where
  pub has : HasSlice job.job (map packed records) number
  pub given : HasGivenRows job.options remaining reader text (take (first_of job.job number) records)

-- there is this slice, it is one of the task's own, and these are its records
pub record IsOwnSlice (job : JobRecord) (records : List Fields) (number : ℕ) (rows : List Fields) : Type 0 where
  pub has : HasSlice job.job (map packed records) number
  pub own : is_own job.task number ≡ true
  pub items : map packed rows ≡ slice_of job records number

-- there is this slice, and these are its records, which begin in the lines that the reader has. It is the last one, or the reader is before the next
-- one.
pub record IsSliceRead {R : Type 0} (job : JobRecord) (remaining : R → Option (List ℕ)) (text : List ℕ) (records : List Fields) (number : ℕ) (reader : RowsReader R) (rows : List Fields) (is_last : Bool) : Type 0 where
  pub has : HasSlice job.job (map packed records) number
  pub items : map packed rows ≡ slice_of job records number
  pub lines : AreLinesFrom job.options text (first_of job.job number) (lines_of reader)
  pub each : length (lines_of reader) ≡ length (slice_of job records number)
  pub next : MatchBool is_last (IsLastSlice job.job (map packed records) number) (StandsBefore job remaining text records (suc number) reader)

-- this holds if a reader that has given nothing of the text yet reads the text of a job that can be resumed
abbrev pub IfJobResumes : {R : Type 0} → JobRecord → (remaining : R → Option (List ℕ)) → RowsReader R → (log db : ℕ → List ℕ) → (Functions → (text : List ℕ) → Type 0) → Type 0
IfJobResumes job remaining reader log db Holds =
    (text : List ℕ) → HasGivenRows job.options remaining reader text [] → (functions : Functions) → CanResumeJob job functions (Some text) log db → Holds functions text

-- this holds of the records of a text over which a job can be resumed
abbrev pub IfResumes : JobRecord → (log db : ℕ → List ℕ) → (Functions → (text : List ℕ) → (records : List Fields) → Type 0) → Type 0
IfResumes job log db Holds = (functions : Functions) (text : List ℕ) (up : CanResumeJob job functions (Some text) log db) → Holds functions text up.records

-- ---- COUNTED

-- there is a limit, and these are more skips
abbrev pub IsOver : (limit : Option ℕ) → (skips : ℕ) → Type 0
IsOver limit skips = (most : ℕ) × (limit ≡ Some most) × (most < skips)

-- A slice that ended is counted. Its results are given to the sink if it is COMPLETED and none failed before. If more were skipped than the limit,
-- the job ends.
pub record IsCounted (limit : Option ℕ) (old new : Tally) (end : SliceEnd) (seam : Seam) : Type 0 where
  pub gives : seam ≡ Gives → (end.status ≡ Completed) × (old.is_failed ≡ false) × (new.is_failed ≡ false) × (new.skips ≡ old.skips + length end.skips.items) × MatchOption limit ⊤ (λ most. new.skips ≤ most)
  pub keeps : seam ≡ Keeps → (new.is_failed ≡ true) × ((old.is_failed ≡ true) ⊎ (end.status ≡ Failed))
  pub ends : seam ≡ Ends → (new.is_failed ≡ true) × (end.status ≡ Completed) × ((most : ℕ) × (limit ≡ Some most) × (most < old.skips + length end.skips.items))
  pub over : seam ≡ Ends → IsOver limit new.skips
  pub fine : new.is_failed ≡ false → (old.is_failed ≡ false) × (end.status ≡ Completed)

-- a job ends so: 0 if nothing failed, and else 1
pub record IsEndOf (t : Tally) (end : JobEnd) : Type 0 where
  pub status : (end.status ≡ 0) ⊎ (end.status ≡ 1)
  pub completed : end.status ≡ 0 → t.is_failed ≡ false
  pub failed : end.status ≡ 1 → t.is_failed ≡ true
  pub skips : end.skips ≡ t.skips

-- ---- DONE

-- the results of the task's own slices, of the first so many, as the task gives them to a sink
abbrev pub front_of : JobRecord → (items : List (List ℕ)) → (count : ℕ) → List (List ℕ)
front_of job items count = given_by job.task (all_results job.function (own_items job.job job.task items count))

-- NONE OF THE TASK'S OWN SLICES BEFORE THIS ONE FAILED: their results were given away, and their faults were counted
pub record AreGood (job : JobRecord) (items : List (List ℕ)) (number skips : ℕ) (taken : List (List ℕ)) : Type 0 where
  pub results : taken ≡ front_of job items number
  pub passed : (k : ℕ) → k < number → is_own job.task k ≡ true → SlicePasses job.job job.limits job.function (slice_at job.job items k)
  pub skips_are : skips ≡ length (fault_classes job.function (own_items job.job job.task items number))
  pub few : MatchOption job.limits.job_skips ⊤ (λ limit. skips ≤ limit)

-- THE SLICES BEFORE THIS ONE ARE DONE: a sink took the results of some of the first ones
pub record AreDone (job : JobRecord) (items : List (List ℕ)) (number skips : ℕ) (failed : Bool) (taken : List (List ℕ)) : Type 0 where
  pub count : ℕ
  pub front : taken ≡ front_of job items count
  pub good : failed ≡ false → AreGood job items number skips taken
  pub bad : failed ≡ true → TaskPasses job items → ⊥

-- ---- LEFT

-- A crash leaves of the files of a slice what it left before the call. Or the slice was run over these items: if the files held it so far, or
-- nothing, they hold it so far again.
abbrev pub IsLeftOfAny : JobRecord → Functions → (stored : ℕ → Image) → (before : Type 0) → (k : ℕ) → (read : List (List ℕ)) → Image → Type 0
IsLeftOfAny job functions stored before k read image = before ⊎ (HoldsSlice job functions k read (stored k) → HoldsRun (KeepsOwn job functions k read) image)

-- WHATEVER A CRASH LEAVES is so
abbrev pub LeavesAny : JobRecord → (log db : ℕ → List ℕ) → (old new : (k : ℕ) → (read : List (List ℕ)) → Image → Type 0) → Type 0
LeavesAny job log db old new =
    (functions : Functions) → AreStampsOf functions job.function job.stamps → (k : ℕ) (read : List (List ℕ)) (image : Image) → new k read image
    → IsLeftOfAny job functions (image_by log db) (old k read image) k read image
