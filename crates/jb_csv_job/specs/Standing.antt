-- Where a job stands between two slices.
use Rattle.std.specs.Prelude.{ℕ, suc, ◌⊎◌, Bool, List, Option, map}
use Rattle.std.specs.Bool.{MatchBool}
use Rattle.jb_rows.specs.Fields.{Fields, packed}
use Rattle.jb_rows.specs.declared.rows_reader.RowsReader.{RowsReader}
use Rattle.jb_slices.specs.Job.{IsLastSlice}
use Rattle.jb_csv_job.specs.Job.{JobRecord}
use Rattle.jb_csv_job.specs.Loop.{AreDone, IsOver, StandsBefore}
use Rattle.jb_csv_job.specs.Skipped.{AreListed}

-- THE SLICES BEFORE THIS ONE WERE RUN: they are done, by the results that a sink took, and listed, if there is a list, by the rows that it took
pub record HaveRun (job : JobRecord) (text : List ℕ) (records : List Fields) (number skips : ℕ) (failed : Bool) (Took : List (List ℕ) → Type 0) (Listed : (List (List ℕ) → Type 0) → Type 0) : Type 0 where
  pub taken : List (List ℕ)
  pub took : Took taken
  pub done : AreDone job (map packed records) number skips failed taken
  pub listed : Listed (AreListed job text records number failed)

-- THE JOB STANDS BEFORE THIS SLICE: so does the reader, and those before it were run
pub record Stands {R : Type 0} (job : JobRecord) (remaining : R → Option (List ℕ)) (text : List ℕ) (records : List Fields) (number : ℕ) (reader : RowsReader R) (skips : ℕ) (failed : Bool)
    (Took : List (List ℕ) → Type 0) (Listed : (List (List ℕ) → Type 0) → Type 0) : Type 0 where
  pub reads : StandsBefore job remaining text records number reader
  pub ran : HaveRun job text records number skips failed Took Listed

-- THE JOB HAS GONE ON AFTER THIS SLICE, which was run too. The reader is before the next one; or there is no more, and this is the last one, or more
-- were skipped than the job's limit.
pub record HasGoneOn {R : Type 0} (job : JobRecord) (remaining : R → Option (List ℕ)) (text : List ℕ) (records : List Fields) (number : ℕ) (reader : RowsReader R) (skips : ℕ) (failed : Bool)
    (Took : List (List ℕ) → Type 0) (Listed : (List (List ℕ) → Type 0) → Type 0) (more : Bool) : Type 0 where
  pub ran : HaveRun job text records (suc number) skips failed Took Listed
  pub next : MatchBool more (StandsBefore job remaining text records (suc number) reader) (IsLastSlice job.job (map packed records) number ⊎ IsOver job.limits.job_skips skips)
