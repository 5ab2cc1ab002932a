-- What a job over CSV is.
use Rattle.std.specs.Prelude.{ℕ, List, ◌∷◌, map, string_bytes}
use Rattle.jb_ready.specs.FaultClasses.{is_retried, is_skipped, set_by}
use Rattle.jb_rows.specs.declared.rows_options.RowsOptions.{RowsOptions}
use Rattle.jb_slices.specs.Function.{Function}
use Rattle.jb_slices.specs.Job.{Job, Limits}
use Rattle.jb_csv_job.specs.declared.asked.Asked.{Asked}
use Rattle.jb_csv_job.specs.declared.asked.Task.{Task}
use Rattle.jb_csv_job.specs.declared.job.CsvJob.{CsvJob}

-- THE JOB: what is done to each record; how records are read and written; its identity and its limits. `stamps` are those of the functions that do
-- the same, its own first. `task` is what the call does of it.
pub record JobRecord : Type 0 where
  pub function : Function
  pub options : RowsOptions
  pub job : Job
  pub limits : Limits
  pub stamps : List (List ℕ)
  pub task : Task

abbrev pub identity_of : CsvJob → Job
identity_of job = record {
  name = job.name.now;
  slice_length = job.slice_length;
  partitions = job.partitions;
  item_count = job.item_count;
  classes = record {
    names = map (λ class. class.name.now) job.classes.now;
    skippable = set_by is_skipped job.classes.now;
    retryable = set_by is_retried job.classes.now;
    no_rollback = 0;
  };
}

abbrev pub limits_of : CsvJob → Limits
limits_of job = record { skips = job.skip_limit; job_skips = job.job_skip_limit; retries = job.retry_limit }

abbrev pub stamps_of : CsvJob → Asked → List (List ℕ)
stamps_of job asked = job.stamp.now ∷ map string_bytes asked.stamps.items

abbrev pub job_record : CsvJob → Asked → Function → JobRecord
job_record job asked function = record {
  function = function;
  options = job.options;
  job = identity_of job;
  limits = limits_of job;
  stamps = stamps_of job asked;
  task = asked.task;
}
