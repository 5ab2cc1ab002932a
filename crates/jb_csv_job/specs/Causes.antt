-- WHY A RUN OF A JOB HAS NO ANSWER: which refusals it may give, and what holds if it gives one. Nothing is said here of why a slice's file, its
-- run or the records are refused, or of how many there are.
use Rattle.std.specs.Prelude.{◌≡◌, ◌≢◌, ◌⊎◌, List, ℕ, Some, None, IsSome, codes, option_map, string_bytes, unwrap_or, ⊤}
use Rattle.hex.specs.Hex.{encode_lower}
use Rattle.jb_csv_job.specs.Asking.{AreAsMany}
use Rattle.jb_csv_job.specs.declared.asked.Asked.{Asked}
use Rattle.jb_csv_job.specs.declared.asked.Task.TheVariants.{Collect}
use Rattle.jb_csv_job.specs.declared.failure.CsvJobError.{CsvJobError}
use Rattle.jb_csv_job.specs.declared.failure.CsvJobError.TheVariants as failure

-- how the list of skipped records is called: by its path
abbrev pub list_name : Asked → List ℕ
list_name asked = unwrap_or (option_map string_bytes asked.skipped) (codes "the list")

-- the list of skipped records isn't written
abbrev pub IsListError : Asked → CsvJobError → Type 0
IsListError asked (failure.Output path why) = string_bytes path ≡ list_name asked
IsListError asked (failure.Rows error) = ⊤
IsListError asked failure.Memory = ⊤
IsListError asked _ = ⊥

-- a run that is asked for so has no answer: never for its arguments or its folder; `NotWhole` only if slices are collected; `Records` and
-- `OtherLength` only with the number that is asked for, and another one beside it; `OtherDigest` only with the digest that is asked for; `NoLineEnd`
-- only if a number of records is asked for, and neither a length nor a digest; `NoRecords` only if no number of records is asked for
abbrev pub IsRunError : Asked → CsvJobError → Type 0
IsRunError asked (failure.NotWhole number) = asked.task ≡ Collect
IsRunError asked (failure.Records most read is_end) = (asked.records ≡ Some most) × (AreAsMany asked.records read is_end → ⊥)
IsRunError asked failure.NoRecords = asked.records ≡ None
IsRunError asked (failure.OtherLength most read) = (asked.bytes ≡ Some most) × (most ≢ read)
IsRunError asked (failure.OtherDigest most read) = (digest : List ℕ) × (asked.sha256 ≡ Some digest) × (string_bytes most ≡ encode_lower digest)
IsRunError asked failure.NoLineEnd = IsSome asked.records × (asked.bytes ≡ None) × (asked.sha256 ≡ None)
IsRunError asked (failure.Output path why) = string_bytes path ≡ list_name asked
IsRunError asked (failure.Words fault) = ⊥
IsRunError asked (failure.Folder fault) = ⊥
IsRunError asked _ = ⊤

-- the same of a run over a sink and a list, each of which has failures of its own
abbrev pub IsRunErrorOver : (of_sink of_list : CsvJobError → Type 0) → Asked → CsvJobError → Type 0
IsRunErrorOver of_sink of_list asked e = of_sink e ⊎ (of_list e ⊎ IsRunError asked e)
