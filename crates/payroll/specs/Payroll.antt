-- A payroll: the pay slips of all time sheets.
use Rattle.std.specs.Prelude.{ℕ, List, [], ◌∷◌, Option, None, codes, map, string_bytes}
use Rattle.sqlite_wal.specs.Recovery.{Image}
use Rattle.jb_csv_job.specs.Done.{HasSkipped, IsByRules, IsDoneSoFar, IsJobDone}
use Rattle.jb_csv_job.specs.Job.{JobRecord}
use Rattle.jb_csv_job.specs.SliceFiles.{CanResumeJob, LeavesSlice}
use Rattle.jb_csv_job.specs.Skipped.{IsListWritten}
use Rattle.jb_csv_job.specs.declared.asked.Asked.{Asked}
use Rattle.jb_rows.specs.declared.header.Header.TheVariants as header
use Rattle.jb_rows.specs.declared.input.Input.TheVariants as input
use Rattle.jb_rows.specs.declared.rows_options.RowsOptions.{RowsOptions}
use Rattle.jb_slices.specs.Job.{Job, Limits}
use Rattle.jb_slices.specs.Slice.{Functions}
use Rattle.payroll.specs.Sheets.{pay_slip}

-- ---- THE JOB

-- its identity, which no later call may change. A time sheet without a pay slip is skipped, and one with too many hours fails its partition.
abbrev pub payroll_job : Job
payroll_job = record {
  name = codes "payroll";
  slice_length = 100000;
  partitions = 8;
  item_count = 100;
  classes = record { names = codes "no pay slip" ∷ codes "more than 744 hours" ∷ []; skippable = 1; retryable = 0; no_rollback = 0 };
}

-- no limit of skips
abbrev pub payroll_limits : Limits
payroll_limits = record { skips = None; job_skips = None; retries = 1000 }

-- records of CSV with commas between fields, of up to 1 MiB, and no header row
abbrev pub payroll_options : RowsOptions
payroll_options = record { input = input.Csv; delimiter = 44; longest = 1048576; header = header.None }

-- THE PAYROLL that a command line asks for: all of it, or a part, with the stamps that it keeps beside its own
abbrev pub payroll : Asked → JobRecord
payroll asked = record {
  function = pay_slip;
  options = payroll_options;
  job = payroll_job;
  limits = payroll_limits;
  stamps = codes "1" ∷ map string_bytes asked.stamps.items;
  task = asked.task;
}

-- ---- WHAT IS STORED AND WRITTEN

-- IT CAN BE RESUMED over the time sheets in these bytes: what the two files of each slice hold is a payroll so far, or nothing
abbrev pub IsPayrollTakenUp : Asked → Functions → (text : Option (List ℕ)) → (log db : ℕ → List ℕ) → Type 0
IsPayrollTakenUp asked functions text log db = CanResumeJob (payroll asked) functions text log db

-- WHAT A CRASH LEAVES of the files of this slice: a payroll so far
abbrev pub LeavesPayroll : Asked → Functions → (text : Option (List ℕ)) → (slice : ℕ) → Image → Type 0
LeavesPayroll asked functions text slice image = LeavesSlice (payroll asked) functions text slice image

-- WHAT WAS WRITTEN IS THE PAY SLIPS OF THE TIME SHEETS THAT WERE READ, each a line, once and in order
abbrev pub IsPaid : Asked → (text old new : Option (List ℕ)) → Type 0
IsPaid asked text old new = IsJobDone (payroll asked) text old new

-- those of the first slices
abbrev pub IsPaidSoFar : Asked → (text old new : Option (List ℕ)) → Type 0
IsPaidSoFar asked text old new = IsDoneSoFar (payroll asked) text old new

-- so many time sheets were skipped: all that have no pay slip
abbrev pub AreSkipped : Asked → (text : Option (List ℕ)) → (skips : ℕ) → Type 0
AreSkipped asked text skips = HasSkipped (payroll asked) text skips

-- the list has the rows of the first slices: the time sheets that were skipped, and of a FAILED slice those by which partitions failed. With status 0
-- it has exactly one for each time sheet that has a fault, in order: its number, its line, its class and the time sheet.
abbrev pub AreSkipsListed : Asked → (text old new : Option (List ℕ)) → (status skips : ℕ) → Type 0
AreSkipsListed asked text old new status skips = IsListWritten (payroll asked) text old new status skips

-- the exit status is 0 only if the payroll's rules let the time sheets pass, and 1 only if they don't
abbrev pub IsPayrollByRules : Asked → (text : Option (List ℕ)) → (status : ℕ) → Type 0
IsPayrollByRules asked text status = IsByRules (payroll asked) text status
