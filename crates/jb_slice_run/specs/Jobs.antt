-- What a run of a slice needs of its job, in the terms of the job's definitions.
use Rattle.std.specs.Prelude.{ℕ, List, ◌∷◌, map}
use Rattle.jb_slices.specs.Checkpoint.{Header, header_of}
use Rattle.jb_slices.specs.Job.{Job}
use Rattle.jb_slice_run.specs.Held.{limits_in}
use Rattle.jb_slice_run.specs.declared.job.SliceJob.{SliceJob}

abbrev pub job_in : SliceJob → Job
job_in j = record {
  name = j.name.now;
  slice_length = j.slice_length;
  partitions = j.partitions;
  item_count = j.item_count;
  classes = record {
    names = map (λ name. name.now) j.classes.now;
    skippable = j.skippable;
    retryable = j.retryable;
    no_rollback = j.no_rollback;
  };
}

-- the stamps of functions that do the same: those that the job accepts, and below with its own
abbrev pub kept_stamps : SliceJob → List (List ℕ)
kept_stamps j = map (λ stamp. stamp.now) j.stamps.now

abbrev pub stamps_in : SliceJob → List (List ℕ)
stamps_in j = j.stamp.now ∷ kept_stamps j

-- the header with which the job begins a slice
abbrev pub header_with : SliceJob → (number items : ℕ) → (digest : List ℕ) → Header
header_with j number items digest = record { job = job_in j; limits = limits_in j.limits; stamp = j.stamp.now; number = number; items = items; digest = digest }

abbrev pub own_header : SliceJob → (number : ℕ) → (items : List (List ℕ)) → Header
own_header j number items = header_of (job_in j) (limits_in j.limits) j.stamp.now number items
