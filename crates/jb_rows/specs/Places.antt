-- The line in which a record of a text begins.
use Rattle.std.specs.Prelude.{ℕ, ◌≡◌, ◌+◌, ◌<◌, ◌≤◌, List, get_or, length, take}
use Rattle.csv.specs.Reading.{AreRecords, strip_bom}
use Rattle.csv.specs.declared.parser.Config.{Config}
use Rattle.csv.specs.declared.parser.State.TheVariants as st
use Rattle.jb_rows.specs.Bytes.{line_after}
use Rattle.jb_rows.specs.Fields.{Fields}
use Rattle.jb_rows.specs.Texts.{config_of, header_of}
use Rattle.jb_rows.specs.declared.rows_options.RowsOptions.{RowsOptions}

-- these bytes have no more records than `number`
pub record HasUpTo (config : Config) (number : ℕ) (bytes : List ℕ) : Type 0 where
  pub records : List Fields
  pub read : AreRecords config st.StartRecord bytes records
  pub up_to : length records ≤ number

-- these bytes have more records than `number`
pub record HasMoreThan (config : Config) (number : ℕ) (bytes : List ℕ) : Type 0 where
  pub records : List Fields
  pub read : AreRecords config st.StartRecord bytes records
  pub more : number < length records

-- The record of this number in these bytes begins in this line. The first record has the number 0, and the first line the number 1. The
-- record begins at `place`, and the line feeds before that give the line.
pub record BeginsAt (config : Config) (bytes : List ℕ) (number line : ℕ) : Type 0 where
  pub place : ℕ
  pub within : place < length bytes
  pub without : HasUpTo config number (take place bytes)
  pub with_it : HasMoreThan config number (take (place + 1) bytes)
  pub line_is : line ≡ line_after (take place bytes)

-- the record of this number of a text, the first after the header row being 0, begins in this line. A byte order mark has no line feed.
abbrev pub BeginsIn : RowsOptions → (text : List ℕ) → (number line : ℕ) → Type 0
BeginsIn options text number line = BeginsAt (config_of options) (strip_bom text) (length (header_of options text) + number) line

-- THESE ARE THE LINES IN WHICH RECORDS OF A TEXT BEGIN, from that of this number on
abbrev pub AreLinesFrom : RowsOptions → (text : List ℕ) → (number : ℕ) → (lines : List ℕ) → Type 0
AreLinesFrom options text number lines = (index : ℕ) → index < length lines → BeginsIn options text (number + index) (get_or lines index 0)
