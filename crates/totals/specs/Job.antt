-- The job, and the totals that come of it.
use Rattle.std.specs.Prelude.{ℕ, ◌≡◌, List, [], ◌∷◌, IfSome, None, Option, codes, map, string_bytes}
use Rattle.sqlite_wal.specs.Recovery.{Image}
use Rattle.jb_csv_job.specs.Done.{IsByRules}
use Rattle.jb_csv_job.specs.Job.{JobRecord}
use Rattle.jb_csv_job.specs.Skipped.{IsListWritten}
use Rattle.jb_csv_job.specs.SliceFiles.{CanResumeJob, LeavesSlice}
use Rattle.jb_csv_job.specs.Tasks.{given_by}
use Rattle.jb_csv_job.specs.declared.asked.Asked.{Asked}
use Rattle.jb_rows.specs.Answers.{all_results}
use Rattle.jb_rows.specs.Fields.{Fields}
use Rattle.jb_rows.specs.Texts.{AreRowsOf}
use Rattle.jb_rows.specs.declared.header.Header.TheVariants as header
use Rattle.jb_rows.specs.declared.input.Input.TheVariants as input
use Rattle.jb_rows.specs.declared.rows_options.RowsOptions.{RowsOptions}
use Rattle.jb_slices.specs.Job.{Job, Limits}
use Rattle.jb_slices.specs.Slice.{Functions}
use Rattle.sales.specs.Amounts.{Amount}
use Rattle.sales.specs.Sales.{answer_by, payments_in}
use Rattle.sales.specs.Totals.{AreTotals, AreTotalsSoFar}
use Rattle.totals.specs.declared.adding.Adding.{Adding}

-- its identity, which no later call may change. Each of the three faults of a line is skipped.
abbrev pub totals_identity : Job
totals_identity = record {
  name = codes "totals";
  slice_length = 100000;
  partitions = 8;
  item_count = 100;
  classes = record { names = codes "not a sale" ∷ codes "no price" ∷ codes "2^64 cents or more" ∷ []; skippable = 7; retryable = 0; no_rollback = 0 };
}

-- no limit of skips
abbrev pub totals_limits : Limits
totals_limits = record { skips = None; job_skips = None; retries = 1000 }

-- lines of up to 1 MiB, and no header row
abbrev pub totals_options : RowsOptions
totals_options = record { input = input.Lines; delimiter = 44; longest = 1048576; header = header.None }

-- THE JOB that a command line asks for, by these prices, with this stamp
abbrev pub totals_job : (prices : List Amount) → (stamp : List ℕ) → Asked → JobRecord
totals_job prices stamp asked = record {
  function = answer_by prices;
  options = totals_options;
  job = totals_identity;
  limits = totals_limits;
  stamps = stamp ∷ map string_bytes asked.stamps.items;
  task = asked.task;
}

-- IT CAN BE RESUMED over the sales in these bytes: what the two files of each slice hold is this job so far, or nothing
abbrev pub AreSalesTakenUp : (prices : List Amount) → (stamp : List ℕ) → Asked → Functions → (text : Option (List ℕ)) → (log db : ℕ → List ℕ) → Type 0
AreSalesTakenUp prices stamp asked functions text log db = CanResumeJob (totals_job prices stamp asked) functions text log db

-- what a crash leaves of the files of this slice: the job so far
abbrev pub LeavesSales : (prices : List Amount) → (stamp : List ℕ) → Asked → Functions → (text : Option (List ℕ)) → (slice : ℕ) → Image → Type 0
LeavesSales prices stamp asked functions text slice image = LeavesSlice (totals_job prices stamp asked) functions text slice image

-- the exit status is 0 only if the job's rules let the sales pass, and 1 only if they don't
abbrev pub IsTotalsByRules : (prices : List Amount) → (stamp : List ℕ) → Asked → (text : Option (List ℕ)) → (status : ℕ) → Type 0
IsTotalsByRules prices stamp asked text status = IsByRules (totals_job prices stamp asked) text status

-- the list has the rows of the first slices: the sales that were skipped. With status 0 it has exactly one for each sale that has a fault, in order:
-- its number, its line, its class and the sale.
abbrev pub AreSkipsListed : (prices : List Amount) → (stamp : List ℕ) → Asked → (text old new : Option (List ℕ)) → (status skips : ℕ) → Type 0
AreSkipsListed prices stamp asked text old new status skips = IsListWritten (totals_job prices stamp asked) text old new status skips

-- the results of all sales that were read were added up, unless a total was refused. A part of the job gives none.
pub record AreAdded (prices : List Amount) (asked : Asked) (text : Option (List ℕ)) (adding : Adding) : Type 0 where
  pub lines : List Fields
  pub read : IfSome text (λ bytes. AreRowsOf totals_options bytes lines)
  pub added : adding.refusal ≡ None → AreTotalsSoFar (all_results (answer_by prices) (given_by asked.task lines)) adding.totals.by_customer

-- THE TOTALS OF ALL SALES THAT WERE READ: those of what is paid for each line of the text. A part of the job has none.
pub record AreTotalsOf (prices : List Amount) (asked : Asked) (text : Option (List ℕ)) (totals : List Fields) : Type 0 where
  pub lines : List Fields
  pub read : IfSome text (λ bytes. AreRowsOf totals_options bytes lines)
  pub are : AreTotals (payments_in prices (given_by asked.task lines)) totals
