-- How a slice of a job ends.
use Rattle.std.specs.Prelude.{ℕ, ◌≡◌, List, map, IfOk, Result}
use Rattle.std.specs.List.{AllByRecursion}
use Rattle.sqlite.specs.State.{State}
use Rattle.sqlite_trees.specs.Tree.{Trees}
use Rattle.jb_collect.specs.declared.calls.Status.TheVariants.{Completed, Failed}
use Rattle.jb_records.specs.PartitionResults.{joined}
use Rattle.jb_slice_file.specs.Files.{HasRunCheckpoints}
use Rattle.jb_slice_run.specs.declared.durable.end.SliceEnd.{SliceEnd}
use Rattle.jb_slice_run.specs.durable.Work.{IfResumed, SoFar}
use Rattle.jb_slice_run.specs.Held.{faults_in, limits_in}
use Rattle.jb_slice_run.specs.Jobs.{job_in, stamps_in}
use Rattle.jb_slice_run.specs.Named.{failure_in}
use Rattle.jb_slice_run.specs.declared.job.SliceJob.{SliceJob}
use Rattle.jb_slices.specs.Checkpoint.{Checkpoint}
use Rattle.jb_slices.specs.Failures.{IsFailureOf, failures_in}
use Rattle.jb_slices.specs.Function.{Function, all_results, faults_from}
use Rattle.jb_slices.specs.Job.{first_of, rules_of}
use Rattle.jb_slices.specs.Passing.{SlicePasses}
use Rattle.jb_slices.specs.Slice.{Functions, IsSliceSoFar, skips_in, stamp_of}
use Rattle.jb_csv_job.specs.Job.{JobRecord, identity_of, limits_of, stamps_of}
use Rattle.jb_csv_job.specs.declared.asked.Asked.{Asked}
use Rattle.jb_csv_job.specs.declared.job.CsvJob.{CsvJob}

-- what a slice's run goes by is the job's
pub record IsSliceJobOf (job : CsvJob) (asked : Asked) (slice : SliceJob) : Type 0 where
  pub identity : job_in slice ≡ identity_of job
  pub limits : limits_in slice.limits ≡ limits_of job
  pub stamps : stamps_in slice ≡ stamps_of job asked

-- its checkpoints name the faults that it skipped and the partitions that failed
pub record IsNamed (job : JobRecord) (number : ℕ) (items : List (List ℕ)) (end : SliceEnd) : Type 0 where
  pub functions : Functions
  pub checkpoints : List Checkpoint
  pub so_far : IsSliceSoFar job.job functions number items checkpoints
  pub stamp_is : functions (stamp_of checkpoints) ≡ job.function
  pub skips_are : faults_in end.skips.items ≡ skips_in checkpoints
  pub failures_are : map failure_in end.failures.items ≡ failures_in checkpoints

-- A SLICE ENDED SO. COMPLETED has the results of its items and the faults that it skipped, and the rules let the items pass. FAILED has the faults by
-- which partitions failed, and the rules don't let the items pass.
pub record IsSliceEnd (job : JobRecord) (number : ℕ) (items : List (List ℕ)) (end : SliceEnd) : Type 0 where
  pub results : end.status ≡ Completed → joined end.results.items ≡ all_results job.function items
  pub skips : end.status ≡ Completed → faults_in end.skips.items ≡ faults_from job.function (first_of job.job number) items
  pub passes : end.status ≡ Completed → SlicePasses job.job job.limits job.function items
  pub fails : end.status ≡ Failed → SlicePasses job.job job.limits job.function items → ⊥
  pub failures : end.status ≡ Failed → AllByRecursion (IsFailureOf job.function (rules_of job.job job.limits) (first_of job.job number) items) (map failure_in end.failures.items)
  pub named : IsNamed job number items end

-- ---- A SLICE THAT IS RESUMED over its file

-- the job, with the identity and the limits that a slice's run goes by
abbrev pub run_record : JobRecord → SliceJob → JobRecord
run_record job slice = record job { job = job_in slice; limits = limits_in slice.limits }

-- it ends so
abbrev pub EndsResumed : {E : Type 0} → SliceJob → JobRecord → (number : ℕ) → (items : List (List ℕ)) → (old new : State) → Result SliceEnd E → Type 0
EndsResumed slice job number items old new result = IfResumed slice job.function number items old new (λ _ _. IfOk result (IsSliceEnd (run_record job slice) number items))

-- and a crash leaves it so far
abbrev pub LeavesResumed : SliceJob → Function → (number : ℕ) → (items : List (List ℕ)) → (old new : State) → Type 0
LeavesResumed slice f number items old new = IfResumed slice f number items old new (λ w _. (db : Trees) → new.may_leave db → HasRunCheckpoints (SoFar w) db)
