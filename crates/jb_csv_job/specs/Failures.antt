-- WHAT A JOB REPORTS IF IT HAS NO ANSWER: a text that begins with the name of the refusal. Nothing is said here of the texts of faults that come
-- from the system.
use Rattle.std.specs.Prelude.{ℕ, Bool, true, false, ◌++◌, List, Option, Some, None, codes, decimal, string_bytes}
use Rattle.jb_csv_job.specs.SliceTexts.{at_slice, run_text, store_text}
use Rattle.jb_csv_job.specs.declared.failure.CsvJobError.{CsvJobError}
use Rattle.jb_csv_job.specs.declared.failure.CsvJobError.TheVariants as failure
use Rattle.jb_csv_job.specs.declared.failure.FolderFault.{FolderFault}
use Rattle.jb_csv_job.specs.declared.failure.FolderFault.TheVariants as folder_fault
use Rattle.jb_csv_job.specs.declared.failure.OutputFault.{OutputFault}
use Rattle.jb_csv_job.specs.declared.failure.OutputFault.TheVariants as output
use Rattle.jb_csv_job.specs.declared.failure.WordsFault.{WordsFault}
use Rattle.jb_csv_job.specs.declared.failure.WordsFault.TheVariants as fault
use Rattle.jb_rows.specs.declared.rows_error.RowsError.{RowsError}
use Rattle.jb_rows.specs.declared.rows_error.RowsError.TheVariants as rows

-- of a job with this word for its input
abbrev pub words_text : (input : List ℕ) → WordsFault → List ℕ
words_text input (fault.Threads value) = codes "Words: --threads " ++ (string_bytes value ++ codes ": type a number from 1 to 64.")
words_text input (fault.Records value) = codes "Words: --records " ++ (string_bytes value ++ codes ": type a number below 18,446,744,073,709,551,616.")
words_text input (fault.Bytes value) = codes "Words: --bytes " ++ (string_bytes value ++ codes ": type a number below 18,446,744,073,709,551,616.")
words_text input (fault.Sha256 value) = codes "Words: --sha256 " ++ (string_bytes value ++ codes ": type 64 hexadecimal digits, as sha256sum prints them.")
words_text input (fault.Part value) = codes "Words: --part " ++ (string_bytes value ++ codes ": type K/N, where K is one of the numbers 0 to N - 1, as 0/4.")
words_text input fault.PartAndCollect = codes "Words: --part runs slices, and --collect runs none. Type one of them."
words_text input fault.PartAndOutput = codes "Words: --part writes no results. Type it without --output, and collect the results by --collect."
words_text input fault.NoFolder = codes "Words: FOLDER is missing."
words_text input fault.NoText = codes "Words: a word is no text in UTF-8."
words_text input (fault.Wrong text) = codes "Words: " ++ string_bytes text
words_text input (fault.SameFile path other) = codes "SameFile: " ++ (string_bytes path ++ (codes " is " ++ (string_bytes other ++ codes ". Beside each PATH is PATH.part. Name another one.")))
words_text input fault.ClosedInput = codes "Stream: standard input is closed. Type the same line with < " ++ (input ++ codes ".")
words_text input fault.ClosedOutput = codes "Stream: standard output is closed. Type the same line with --output PATH, or without >&-."

abbrev pub folder_text : (folder : List ℕ) → FolderFault → Option (List ℕ)
folder_text folder folder_fault.NotAFolder = Some (codes "NotAFolder: " ++ (folder ++ codes " is no folder. Name another FOLDER: it is made if it isn't there."))
folder_text folder folder_fault.History = Some (codes "NotAFile: " ++ (folder ++ codes "/history.jsonl is no regular file. Remove it, or name another FOLDER."))
folder_text folder (folder_fault.CannotMake error) = None
folder_text folder (folder_fault.NotAllowed error) = None
folder_text folder (folder_fault.NotSynced error) = None

abbrev pub output_text : (path : List ℕ) → OutputFault → Option (List ℕ)
output_text path output.NotAFile = Some (codes "NotAFile: " ++ (path ++ codes " is no regular file. Name another one, or leave its option out."))
output_text path output.Busy = Some (codes "Busy: another process is writing " ++ (path ++ codes ". Type the same line again when it has ended."))
output_text path output.Changed = Some (codes "Changed: " ++ (path ++ codes ".part was changed by another process. Type the same line again when it has ended."))
output_text path (output.CannotWrite error) = None
output_text path (output.NotAllowed error) = None
output_text path (output.CannotSync error) = None
output_text path (output.NotSynced error) = None

abbrev pub rows_text : RowsError → Option (List ℕ)
rows_text (rows.TooLong number) = Some (codes "TooLong: record " ++ (decimal number ++ codes " is too long. Correct it: often a quote isn't closed."))
rows_text rows.LongHeader = Some (codes "TooLong: the header row is too long. Correct it: often a quote isn't closed.")
rows_text (rows.Stream error) = None
rows_text rows.Memory = Some (codes "Memory: out of memory. Type the same line again when there is more.")

-- the number that `--records` has, and the number that was read up to there, or to the end of the input
abbrev pub records_text : (records : List ℕ) → (asked read : ℕ) → (is_end : Bool) → List ℕ
records_text records asked read true = codes "OtherNumber: the input has " ++ (decimal read ++ (codes " " ++ (records ++ (codes ", and --records says " ++ (decimal asked ++ codes ". The last slice isn't run. Type the same line with the right input.")))))
records_text records asked read false = codes "OtherNumber: the input has " ++ (decimal read ++ (codes " " ++ (records ++ (codes " at least, and --records says " ++ (decimal asked ++ codes ". Type the same line with the right input.")))))

-- the number of bytes that the input has, and the one that `--bytes` has
abbrev pub length_text : (asked read : ℕ) → List ℕ
length_text asked read = codes "OtherLength: the input has " ++ (decimal read ++ (codes " bytes, and --bytes says " ++ (decimal asked ++ codes ". The last slice isn't run. Type the same line with the right input.")))

-- the digest of the input, and the one that `--sha256` has
abbrev pub digest_text : (asked read : List ℕ) → List ℕ
digest_text asked read = codes "OtherDigest: the SHA-256 digest of the input is " ++ (read ++ (codes ", and --sha256 says " ++ (asked ++ codes ". The last slice isn't run. Type the same line with the right input.")))

-- of a job over this folder, with these names for its input and its records
abbrev pub job_failure_text : (input records folder : List ℕ) → CsvJobError → Option (List ℕ)
job_failure_text input records folder (failure.Words fault) = Some (words_text input fault)
job_failure_text input records folder (failure.Folder fault) = folder_text folder fault
job_failure_text input records folder (failure.NotAFile number) = Some (at_slice (codes "NotAFile") folder number (codes "the file or its log is no regular file. Remove it, or name another FOLDER."))
job_failure_text input records folder (failure.NotAllowed number error) = None
job_failure_text input records folder (failure.File number error) = store_text folder number error
job_failure_text input records folder (failure.Slice number error) = run_text folder records number error
job_failure_text input records folder (failure.NotWhole number) = Some (at_slice (codes "NotWhole") folder number (codes "the slice isn't whole, and --collect runs nothing. Type the line that runs it, and then this one again."))
job_failure_text input records folder (failure.Records asked read is_end) = Some (records_text records asked read is_end)
job_failure_text input records folder failure.NoRecords = Some (codes "NoRecords: the input has no " ++ (records ++ codes ". Type the same line with the right input, or with --records 0."))
job_failure_text input records folder (failure.OtherLength asked read) = Some (length_text asked read)
job_failure_text input records folder (failure.OtherDigest asked read) = Some (digest_text (string_bytes asked) (string_bytes read))
job_failure_text input records folder failure.NoLineEnd = Some (codes "NoLineEnd: the last line of the input has no line end, so it may be cut. The last slice isn't run. Type the same line with the whole input. If it is whole, add --bytes or --sha256.")
job_failure_text input records folder (failure.Rows error) = rows_text error
job_failure_text input records folder (failure.Output path why) = output_text (string_bytes path) why
job_failure_text input records folder failure.TooMany = Some (codes "TooMany: there are too many " ++ (records ++ codes ": their numbers end at 18,446,744,073,709,551,615."))
job_failure_text input records folder failure.Memory = Some (codes "Memory: out of memory. Type the same line again when there is more.")
