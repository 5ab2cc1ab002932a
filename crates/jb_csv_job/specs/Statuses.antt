-- THE EXIT STATUS IF A JOB HAS NO ANSWER. It is 2 if the job was stopped. It is 3 if it refuses what it was given, and the same line won't help. It
-- is 4 if the same line helps later: no memory, no worker, no room, a busy file, a stream that failed. It is 5 if the arguments are wrong, or a stream
-- that is needed is closed.
use Rattle.std.specs.Prelude.{ℕ, if◌then◌else◌}
use Rattle.std.specs.declared.io.Error.{Error}
use Rattle.jb_files.specs.Lasting.{lasts}
use Rattle.jb_csv_job.specs.declared.failure.CsvJobError.{CsvJobError}
use Rattle.jb_csv_job.specs.declared.failure.CsvJobError.TheVariants as failure
use Rattle.jb_csv_job.specs.declared.failure.FolderFault.{FolderFault}
use Rattle.jb_csv_job.specs.declared.failure.FolderFault.TheVariants as folder
use Rattle.jb_csv_job.specs.declared.failure.OutputFault.{OutputFault}
use Rattle.jb_csv_job.specs.declared.failure.OutputFault.TheVariants as output
use Rattle.jb_slice_run.specs.declared.error.SliceError.{SliceError}
use Rattle.jb_slice_run.specs.declared.error.SliceError.TheVariants as slice
use Rattle.jb_slice_file.specs.declared.error.StoreError.{StoreError}
use Rattle.jb_slice_file.specs.declared.error.StoreError.TheVariants as store
use Rattle.jb_records.specs.declared.error.RecordsStepError.{RecordsStepError}
use Rattle.jb_records.specs.declared.error.RecordsStepError.TheVariants as step
use Rattle.jb_step.specs.declared.error.StepError.{StepError}
use Rattle.jb_step.specs.declared.error.StepError.TheVariants as round
use Rattle.jb_rows.specs.declared.rows_error.RowsError.{RowsError}
use Rattle.jb_rows.specs.declared.rows_error.RowsError.TheVariants as rows

-- of a slice's file: that it can't be opened may pass, and `NotAllowed` lasts
abbrev pub store_status : StoreError → ℕ
store_status store.Busy = 4
store_status store.CannotOpen = 4
store_status store.Full = 4
store_status store.Disk = 4
store_status store.Shut = 4
store_status store.Taken = 4
store_status store.Memory = 4
store_status _ = 3

-- of its step
abbrev pub round_status : StepError → ℕ
round_status round.Workers = 4
round_status round.Memory = 4
round_status _ = 3

abbrev pub step_status : RecordsStepError → ℕ
step_status (step.Step error) = round_status error
step_status step.Memory = 4
step_status _ = 3

-- of its run
abbrev pub run_status : SliceError → ℕ
run_status (slice.Store error) = store_status error
run_status (slice.Step error) = step_status error
run_status slice.Stopped = 2
run_status slice.Memory = 4
run_status _ = 3

-- of the input and the results
abbrev pub rows_status : RowsError → ℕ
rows_status (rows.Stream error) = 4
rows_status rows.Memory = 4
rows_status _ = 3

-- of a call of the system that failed
abbrev pub system_status : Error → ℕ
system_status error = if lasts error then 3 else 4

abbrev pub folder_status : FolderFault → ℕ
folder_status folder.NotAFolder = 3
folder_status folder.History = 3
folder_status (folder.CannotMake error) = 4
folder_status (folder.NotAllowed error) = 3
folder_status (folder.NotSynced error) = system_status error

abbrev pub output_status : OutputFault → ℕ
output_status output.NotAFile = 3
output_status output.Busy = 4
output_status output.Changed = 4
output_status (output.CannotWrite error) = 4
output_status (output.NotAllowed error) = 3
output_status (output.CannotSync error) = system_status error
output_status (output.NotSynced error) = 4

abbrev pub failure_status : CsvJobError → ℕ
failure_status (failure.Words fault) = 5
failure_status (failure.Folder fault) = folder_status fault
failure_status (failure.NotAFile number) = 3
failure_status (failure.NotAllowed number error) = 3
failure_status (failure.File number error) = store_status error
failure_status (failure.Slice number error) = run_status error
failure_status (failure.NotWhole number) = 3
failure_status (failure.Records asked read is_end) = 3
failure_status failure.NoRecords = 3
failure_status (failure.OtherLength asked read) = 3
failure_status (failure.OtherDigest asked read) = 3
failure_status failure.NoLineEnd = 3
failure_status (failure.Rows error) = rows_status error
failure_status (failure.Output path why) = output_status why
failure_status failure.TooMany = 3
failure_status failure.Memory = 4
