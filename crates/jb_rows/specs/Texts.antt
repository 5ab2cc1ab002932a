-- The records of a text of CSV (RFC 4180, as the kit's `csv` reads it; records may differ in their number of fields) or of lines, and its
-- header row.
use Rattle.std.specs.Prelude.{Bool, true, false, ℕ, ◌≡◌, ◌<◌, ◌++◌, ◌∷◌, List, [], length, option_map, option_to_list}
use Rattle.std.specs.Io.Iter.{u64_saturate}
use Rattle.csv.specs.Machine.{next_record}
use Rattle.csv.specs.Reading.{AreRecords, Reached, default_config, strip_bom}
use Rattle.csv.specs.declared.parser.Config.{Config}
use Rattle.csv.specs.declared.parser.State.{State}
use Rattle.csv.specs.declared.parser.State.TheVariants as st
use Rattle.jb_rows.specs.Fields.{Fields, packed}
use Rattle.jb_rows.specs.declared.header.Header.{Header}
use Rattle.jb_rows.specs.declared.header.Header.TheVariants as hd
use Rattle.jb_rows.specs.declared.input.Input.{Input}
use Rattle.jb_rows.specs.declared.input.Input.TheVariants as input
use Rattle.jb_rows.specs.declared.rows_options.RowsOptions.{RowsOptions}

-- ---- ALL RECORDS

-- the default but for these: whether quotes have a meaning, and the byte between fields
abbrev pub config_with : (quoting : Bool) (delimiter : ℕ) → Config
config_with quoting delimiter = record default_config { quoting = quoting; delimiter = delimiter }

-- In a line no quote has a meaning, and the byte between fields is 0, so a line without it is a record of one field.
abbrev pub config_by : Input → (delimiter : ℕ) → Config
config_by input.Csv delimiter = config_with true delimiter
config_by input.Lines delimiter = config_with false 0

-- how a text is read
abbrev pub config_of : RowsOptions → Config
config_of options = config_by options.input options.delimiter

-- these are the records of the text, its header row with them
abbrev pub AreFieldsOf : (config : Config) (text : List ℕ) → List Fields → Type 0
AreFieldsOf config text records = AreRecords config st.StartRecord (strip_bom text) records

-- these are the first records of these bytes, after which there may be more
abbrev pub AreFirst : (config : Config) (bytes : List ℕ) → List Fields → Type 0
AreFirst config bytes records = (state : State) × (left : List ℕ) × Reached config st.StartRecord bytes records state left

-- these are the first ones of the text
abbrev pub AreFirstFieldsOf : (config : Config) (text : List ℕ) → List Fields → Type 0
AreFirstFieldsOf config text records = AreFirst config (strip_bom text) records

-- the text's first record, if it has one
unfoldable pub first_record : (config : Config) (text : List ℕ) → List Fields
first_record config text = option_to_list (option_map (λ p. p.0) (next_record config st.StartRecord [] [] (strip_bom text)))

-- ---- THE HEADER ROW

-- the first record, if it is a header row
abbrev pub header_by : Header → (first : List Fields) → List Fields
header_by hd.None first = []
header_by hd.Skipped first = first
header_by hd.Copied first = first

-- the first record, if it is a header row that is copied
abbrev pub copied_by : Header → (first : List Fields) → List Fields
copied_by hd.None first = []
copied_by hd.Skipped first = []
copied_by hd.Copied first = first

-- the text's header row, if it has one
abbrev pub header_of : RowsOptions → (text : List ℕ) → List Fields
header_of options text = header_by options.header (first_record (config_of options) text)

-- the one that is copied
abbrev pub copied_header : RowsOptions → (text : List ℕ) → List Fields
copied_header options text = copied_by options.header (first_record (config_of options) text)

-- ---- THE RECORDS AFTER IT

-- THESE ARE THE RECORDS OF THE TEXT, after its header row if it has one
abbrev pub AreRowsOf : RowsOptions → (text : List ℕ) → List Fields → Type 0
AreRowsOf options text records = AreFieldsOf (config_of options) text (header_of options text ++ records)

-- these are the first ones, after which more text may follow
abbrev pub AreFirstRowsOf : RowsOptions → (text : List ℕ) → List Fields → Type 0
AreFirstRowsOf options text records = AreFirstFieldsOf (config_of options) text (header_of options text ++ records)

-- the record of this number, the first after the header row being 0, comes after these, which are the first ones of the text
abbrev pub IsAfter : RowsOptions → (text : List ℕ) → List Fields → (number : ℕ) → Type 0
IsAfter options text records number = AreFirstRowsOf options text records × (number ≡ u64_saturate (length records))

-- the record after these, which are the first ones of the text, has more bytes than the longest may have, packed
pub record IsLongAfter (config : Config) (text : List ℕ) (records : List Fields) (longest : ℕ) : Type 0 where
  pub fields : Fields
  pub read : AreFirstFieldsOf config text (records ++ fields ∷ [])
  pub longer : longest < length (packed fields)

-- the same after the header row
abbrev pub IsTooLongAfter : RowsOptions → (text : List ℕ) → List Fields → (longest : ℕ) → Type 0
IsTooLongAfter options text records longest = IsLongAfter (config_of options) text (header_of options text ++ records) longest
