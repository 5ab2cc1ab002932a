-- What a sink of lines of CSV took.
use Rattle.std.specs.Prelude.{ℕ, [], List, Option, map, ⊤}
use Rattle.std.proofs.KnownBytes.{Appends-nil}
use Rattle.std.specs.Io.KnownBytes.{Appends}
use Rattle.jb_rows.specs.Fields.{fields_in}
use Rattle.jb_rows.specs.Streams.{IsBetweenRows, csv_rows, rows_written}
use Rattle.jb_csv_job.specs.declared.failure.CsvJobError.{CsvJobError}
use Rattle.jb_csv_job.specs.declared.failure.CsvJobError.TheVariants.{Rows}
use Rattle.jb_csv_job.specs.declared.sink.CsvSink.{CsvSink}

-- it is between two lines, and what its stream holds once all is written
abbrev pub IsBetweenLines : {W : Type 0} → (delimiter : ℕ) → CsvSink W → Type 0
IsBetweenLines delimiter sink = IsBetweenRows delimiter sink.writer

abbrev pub lines_written : {W : Type 0} → (contents : W → Option (List ℕ)) → CsvSink W → Option (List ℕ)
lines_written contents sink = rows_written contents sink.writer

-- these results were written since, each a line
abbrev pub HasTaken : {W : Type 0} → (contents : W → Option (List ℕ)) → (start now : CsvSink W) → (results : List (List ℕ)) → Type 0
HasTaken contents start now results =
    (delimiter : ℕ) → IsBetweenLines delimiter start
    → IsBetweenLines delimiter now × Appends (lines_written contents start) (lines_written contents now) (csv_rows delimiter (map fields_in results))

-- since the sink itself none was written
pub taken_none : {W : Type 0} (contents : W → Option (List ℕ)) (s : CsvSink W) → HasTaken contents s s []
taken_none contents s delimiter between = (between, Appends-nil (lines_written contents s))

-- a failure of the records that are read or written
abbrev pub IsRowsError : CsvJobError → Type 0
IsRowsError (Rows error) = ⊤
IsRowsError _ = ⊥
