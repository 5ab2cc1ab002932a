-- The records of a stream of CSV or of lines, and records of CSV in one (RFC 4180, as the kit's `csv` reads and writes it). Records may
-- differ in their number of fields.
use Rattle.std.specs.Prelude.{ℕ, ◌≡◌, ◌++◌, Bool, true, false, List, Option, Some, length, map}
use Rattle.std.specs.Bool.{MatchBool}
use Rattle.std.specs.Io.Iter.{u64_saturate}
use Rattle.std.specs.List.{concat}
use Rattle.csv.specs.Reading.{AreRecords, strip_bom}
use Rattle.csv.specs.Writing.{default_writer, fields_written, has_written, row_text, text_written, with_delimiter, with_flexible, writer_setup}
use Rattle.csv.specs.declared.parser.Config.{Config}
use Rattle.csv.specs.declared.parser.State.TheVariants as st
use Rattle.csv.specs.declared.writer.Writer.{Writer}
use Rattle.csv.specs.declared.writer.WriterBuilder.{WriterBuilder}
use Rattle.jb_rows.specs.Bytes.{line_after, marks_config}
use Rattle.jb_rows.specs.Fields.{Fields}
use Rattle.jb_rows.specs.Source.{unread}
use Rattle.jb_rows.specs.Texts.{AreFieldsOf, AreFirst, config_of, header_of}
use Rattle.jb_rows.specs.declared.rows_options.RowsOptions.{RowsOptions}
use Rattle.jb_rows.specs.declared.rows_reader.RowsReader.{RowsReader}
use Rattle.jb_rows.specs.declared.text_reader.TextReader.{TextReader}
use Rattle.jb_rows.specs.declared.rows_writer.RowsWriter.{RowsWriter}

-- ---- READ

-- these bytes are these records, whole: whatever text comes after them, its records come after these, be they all of it or the first ones
abbrev pub AreWhole : (config : Config) (bytes : List ℕ) → List Fields → Type 0
AreWhole config bytes records =
    ((after : List ℕ) (later : List Fields) → AreRecords config st.StartRecord after later → AreRecords config st.StartRecord (bytes ++ after) (records ++ later))
    × ((after : List ℕ) (later : List Fields) → AreFirst config after later → AreFirst config (bytes ++ after) (records ++ later))

-- A READER OF THE TEXT HAS GIVEN THESE RECORDS SO FAR: they are those of the bytes before what it has left. It counts lines on its way.
abbrev pub HasGiven : {R : Type 0} → (config : Config) (remaining : R → Option (List ℕ)) → TextReader R → (text : List ℕ) → List Fields → Type 0
HasGiven config remaining reader text records =
    (passed left : List ℕ) × (strip_bom text ≡ passed ++ left) × (unread remaining reader.source ≡ Some left) × AreWhole config passed records
    × (marks_config reader.marks ≡ config) × (reader.line ≡ line_after passed)

-- the same of a reader of rows; once it has come to the end, these are all records
abbrev pub HasRead : {R : Type 0} → (config : Config) (remaining : R → Option (List ℕ)) → RowsReader R → (text : List ℕ) → List Fields → Type 0
HasRead config remaining rows text records = MatchBool rows.is_done (AreFieldsOf config text records) (HasGiven config remaining rows.reader text records)

-- A READER OF ROWS HAS GIVEN THESE RECORDS OF THE TEXT SO FAR, after its header row, which it keeps. It counts them.
abbrev pub HasGivenRows : {R : Type 0} → RowsOptions → (remaining : R → Option (List ℕ)) → RowsReader R → (text : List ℕ) → List Fields → Type 0
HasGivenRows options remaining rows text records =
    HasRead (config_of options) remaining rows text (header_of options text ++ records) × (rows.header ≡ header_of options text) × (rows.given ≡ u64_saturate (length records))

-- the header row that the reader keeps, if the text has one
abbrev pub kept_header : {R : Type 0} → RowsReader R → List Fields
kept_header rows = rows.header

-- the stream below
abbrev pub stream_of : {R : Type 0} → RowsReader R → R
stream_of rows = rows.reader.source.stream

-- it has come to the end of the text, and there the last record had no line end
abbrev pub is_over : {R : Type 0} → RowsReader R → Bool
is_over rows = rows.is_done

abbrev pub ends_open : {R : Type 0} → RowsReader R → Bool
ends_open rows = rows.is_open

-- the lines in which the records begin that the reader gave last
abbrev pub lines_of : {R : Type 0} → RowsReader R → List ℕ
lines_of rows = rows.lines.items

-- the most bytes that a record which the reader gives may have, packed
abbrev pub longest_of : {R : Type 0} → RowsReader R → ℕ
longest_of rows = rows.longest

-- ---- WRITTEN

-- the default but for the byte between fields, and that records may differ in their number of fields, which changes no record's text
abbrev pub rows_writer : (delimiter : ℕ) → WriterBuilder
rows_writer delimiter = with_delimiter (with_flexible default_writer true) delimiter

-- the line of CSV of a record, with its end
unfoldable pub csv_row : (delimiter : ℕ) → Fields → List ℕ
csv_row delimiter fields = row_text (rows_writer delimiter) fields

-- the lines of records, one after the other
abbrev pub csv_rows : (delimiter : ℕ) → List Fields → List ℕ
csv_rows delimiter records = concat (map (csv_row delimiter) records)

-- the writer is between two records
abbrev pub IsBetween : {W : Type 0} → (delimiter : ℕ) → Writer W → Type 0
IsBetween delimiter writer = (fields_written writer ≡ 0) × (has_written writer ≡ false) × (writer_setup writer ≡ rows_writer delimiter)

-- the same of a writer of rows, and what its stream holds once all is written
abbrev pub IsBetweenRows : {W : Type 0} → (delimiter : ℕ) → RowsWriter W → Type 0
IsBetweenRows delimiter rows = IsBetween delimiter rows.writer

abbrev pub rows_written : {W : Type 0} → (contents : W → Option (List ℕ)) → RowsWriter W → Option (List ℕ)
rows_written contents rows = text_written contents rows.writer
