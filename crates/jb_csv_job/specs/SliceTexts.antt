-- WHAT IS REPORTED OF A SLICE WHOSE FILE OR RUN IS REFUSED: the name of the refusal, the slice, its file, what is wrong, and what to do. Nothing is
-- said here of the texts of faults that come from SQLite, or from a step that can't be run.
use Rattle.std.specs.Prelude.{ℕ, ◌++◌, List, Option, Some, None, codes, decimal}
use Rattle.jb_csv_job.specs.Paths.{slice_path}
use Rattle.jb_records.specs.declared.error.RecordsStepError.{RecordsStepError}
use Rattle.jb_records.specs.declared.error.RecordsStepError.TheVariants as step
use Rattle.sqlite.specs.declared.error.Error.TheVariants as sql
use Rattle.jb_slice_file.specs.declared.error.StoreError.{StoreError}
use Rattle.jb_slice_file.specs.declared.error.StoreError.TheVariants as store
use Rattle.jb_slice_run.specs.declared.error.IdentityPart.{IdentityPart}
use Rattle.jb_slice_run.specs.declared.error.IdentityPart.TheVariants as identity
use Rattle.jb_slice_run.specs.declared.error.SliceError.{SliceError}
use Rattle.jb_slice_run.specs.declared.error.SliceError.TheVariants as slice
use Rattle.jb_step.specs.declared.error.StepError.{StepError}
use Rattle.jb_step.specs.declared.error.StepError.TheVariants as round

-- the name of a refusal, the slice, its file, and what is said of them
abbrev pub at_slice : (name folder : List ℕ) → (number : ℕ) → (what : List ℕ) → List ℕ
at_slice name folder number what = name ++ (codes ": slice " ++ (decimal number ++ (codes ", " ++ (slice_path folder number ++ (codes ": " ++ what)))))

-- ---- ITS FILE

abbrev pub store_name : StoreError → List ℕ
store_name store.Foreign = codes "Foreign"
store_name store.Version = codes "Version"
store_name store.Gap = codes "Gap"
store_name (store.Altered number) = codes "Damaged"
store_name store.Damaged = codes "Damaged"
store_name store.Busy = codes "Busy"
store_name store.CannotOpen = codes "CannotOpen"
store_name store.Full = codes "Full"
store_name store.Disk = codes "Disk"
store_name store.Shut = codes "Shut"
store_name store.TooLong = codes "TooLong"
store_name store.Taken = codes "Taken"
store_name store.TooMany = codes "TooMany"
store_name store.Memory = codes "Memory"
store_name (store.Sql (sql.Utf8Error at)) = codes "Damaged"
store_name (store.Sql error) = codes "Sql"

abbrev pub store_what : StoreError → List ℕ
store_what store.Foreign = codes "the file is another program's: it has no table of checkpoints. Name another FOLDER."
store_what store.Version = codes "the checkpoints are in another form, of another version. Finish the job with that version, or name another FOLDER."
store_what store.Gap = codes "a checkpoint is missing. Restore the file and its log from a copy, or delete both: the slice then runs again."
store_what (store.Altered number) = codes "checkpoint " ++ (decimal number ++ codes " was changed. Restore the file and its log from a copy, or delete both: the slice then runs again.")
store_what store.Damaged = codes "the file is no database, or a damaged one. Restore the file and its log from a copy, or delete both: the slice then runs again."
store_what store.Busy = codes "another process has the file open. Type the same line again when it has ended."
store_what store.CannotOpen = codes "the file can't be opened to be read and written. Look at the room on the disk, and type the same line again."
store_what store.Full = codes "the disk is full. Make room, and type the same line again."
store_what store.Disk = codes "the disk failed. Type the same line again, or restore the file and its log from a copy."
store_what store.Shut = codes "the disk failed earlier, and the file was shut. Type the same line again."
store_what store.TooLong = codes "a checkpoint is longer than a row may be. Ask the author of the job for shorter slices."
store_what store.Taken = codes "another process wrote the same checkpoint. Type the same line again."
store_what store.TooMany = codes "there are 4,294,967,295 checkpoints. Delete the file and its log: the slice then runs again."
store_what store.Memory = codes "out of memory. Type the same line again when there is more, or with fewer threads."
store_what (store.Sql (sql.Utf8Error at)) = codes "a checkpoint can't be read. Restore the file and its log from a copy, or delete both: the slice then runs again."
store_what (store.Sql error) = codes "SQLite refused a statement."

-- a text that isn't UTF-8 is that of a checkpoint, since no other one is read
abbrev pub store_text : (folder : List ℕ) → (number : ℕ) → StoreError → Option (List ℕ)
store_text folder number (store.Sql (sql.Utf8Error at)) = Some (at_slice (codes "Damaged") folder number (store_what (store.Sql (sql.Utf8Error at))))
store_text folder number (store.Sql error) = None
store_text folder number error = Some (at_slice (store_name error) folder number (store_what error))

-- ---- ITS CHECKPOINTS

abbrev pub part_what : IdentityPart → List ℕ
part_what identity.Name = codes "another name"
part_what identity.SliceLength = codes "another slice length"
part_what identity.Partitions = codes "another number of partitions"
part_what identity.ItemCount = codes "another item count"
part_what identity.Classes = codes "other classes of faults"

abbrev pub other_job_what : IdentityPart → List ℕ
other_job_what part = codes "the checkpoints are of a job with " ++ (part_what part ++ codes ". Name another FOLDER, or finish that job with its own program.")

-- ---- ITS STEP

abbrev pub round_text : (folder : List ℕ) → (number : ℕ) → StepError → Option (List ℕ)
round_text folder number round.Workers = Some (at_slice (codes "Workers") folder number (codes "a thread can't be started. Type the same line again later, or with fewer threads."))
round_text folder number round.Memory = Some (at_slice (codes "Memory") folder number (codes "out of memory. Type the same line again when there is more, or with fewer threads."))
round_text folder number error = None

abbrev pub step_text : (folder records : List ℕ) → (number : ℕ) → RecordsStepError → Option (List ℕ)
step_text folder records number step.Records = Some (at_slice (codes "TooMany") folder number (codes "a slice has more than 10,000,000 " ++ (records ++ codes ". Ask the author of the job for shorter slices.")))
step_text folder records number step.Results = Some (at_slice (codes "Damaged") folder number (codes "a checkpoint has other results than it counts. Restore the file and its log from a copy, or delete both: the slice then runs again."))
step_text folder records number step.SkippedTry = Some (at_slice (codes "SkippedTry") folder number (codes "a first try fails with a class that is skipped. Ask the author of the job."))
step_text folder records number (step.Step error) = round_text folder number error
step_text folder records number step.Memory = Some (at_slice (codes "Memory") folder number (codes "out of memory. Type the same line again when there is more, or with fewer threads."))

-- ---- ITS RUN

-- of a job with this word for its records
abbrev pub run_text : (folder records : List ℕ) → (number : ℕ) → SliceError → Option (List ℕ)
run_text folder records number (slice.Store error) = store_text folder number error
run_text folder records number (slice.Step error) = step_text folder records number error
run_text folder records number (slice.OtherJob part) = Some (at_slice (codes "OtherJob") folder number (other_job_what part))
run_text folder records number slice.OtherSlice = Some (at_slice (codes "OtherSlice") folder number (codes "the checkpoints are of another slice. Give each file its own name again."))
run_text folder records number slice.OtherItems = Some (at_slice (codes "OtherRecords") folder number (codes "the checkpoints are of other " ++ (records ++ codes ". Type the same line with the input that the slice began with, or name another FOLDER.")))
run_text folder records number slice.OtherStamp = Some (at_slice (codes "OtherStamp") folder number (codes "the checkpoints are of a function with another stamp. If its results are still right, add --keep-stamp with that stamp. Else name another FOLDER."))
run_text folder records number slice.LoweredLimit = Some (at_slice (codes "LoweredLimit") folder number (codes "a limit is lower than when the slice ran. Raise it again, or name another FOLDER."))
run_text folder records number slice.Damaged = Some (at_slice (codes "Damaged") folder number (codes "a checkpoint can't be read. Restore the file and its log from a copy, or delete both: the slice then runs again."))
run_text folder records number slice.TooLong = Some (at_slice (codes "TooLong") folder number (codes "a checkpoint has more than 4,294,967,295 bytes or texts. Ask the author of the job for shorter slices."))
run_text folder records number slice.NoNumbers = Some (at_slice (codes "TooMany") folder number (codes "there are too many " ++ (records ++ codes ": their numbers end at 18,446,744,073,709,551,615.")))
run_text folder records number slice.TooMany = store_text folder number store.TooMany
run_text folder records number slice.Stopped = Some (at_slice (codes "Stopped") folder number (folder ++ codes "/stop is there. What was done is stored. Remove it, and type the same line again."))
run_text folder records number slice.Memory = Some (at_slice (codes "Memory") folder number (codes "out of memory. Type the same line again when there is more, or with fewer threads."))
