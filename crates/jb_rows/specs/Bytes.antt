-- What bytes do to a reader of records, as the kit's `csv` has it.
use Rattle.std.specs.Prelude.{ℕ, ◌≡◌, ◌++◌, ◌==◌, ◌+◌, Bool, false, List, [], ◌∷◌, Some, count_by}
use Rattle.std.specs.Io.Iter.{u64_saturate}
use Rattle.csv.specs.Machine.{after_end, ends_at_end, line_feed, next_record}
use Rattle.csv.specs.declared.parser.Action.{Action}
use Rattle.csv.specs.declared.parser.Action.TheVariants as act
use Rattle.csv.specs.declared.parser.Config.{Config}
use Rattle.csv.specs.declared.parser.State.{State}
use Rattle.csv.specs.declared.parser.State.TheVariants as st
use Rattle.csv.specs.declared.parser.Terminator.TheVariants as term
use Rattle.jb_rows.specs.Fields.{Fields}
use Rattle.jb_rows.specs.TextLines.{ends_line}
use Rattle.jb_rows.specs.Texts.{config_with}
use Rattle.jb_rows.specs.declared.machine.Marks.{Marks}
use Rattle.jb_rows.specs.declared.machine.Place.{Place}
use Rattle.jb_rows.specs.declared.machine.Place.TheVariants as place
use Rattle.jb_rows.specs.declared.machine.Turn.{Turn}
use Rattle.jb_rows.specs.declared.machine.Turn.TheVariants as turn

-- ---- ONE BYTE

abbrev pub marks_config : Marks → Config
marks_config marks = config_with marks.quoting marks.delimiter

-- a place, and what a byte does, as `csv` names them
abbrev pub csv_state : Place → State
csv_state place.StartField = st.StartField
csv_state place.InField = st.InField
csv_state place.InQuoted = st.InQuoted
csv_state place.AfterQuote = st.AfterQuote

abbrev pub csv_turn : Turn → (byte : ℕ) → State × Action
csv_turn (turn.Skip at) byte = (csv_state at, act.Skip)
csv_turn (turn.Copy at) byte = (csv_state at, act.Copy)
csv_turn turn.EndField byte = (st.StartField, act.EndField)
csv_turn turn.EndRecord byte = (after_end term.CRLF byte, act.EndRecord)

-- ---- MANY

-- Whatever text comes after these bytes, the record that is read is the one that is read after them with what they did. They gave so
-- many fields, and the bytes of one more.
abbrev pub ReadsOn : Config → State → Fields → (field : List ℕ) → (bytes : List ℕ) → State → Fields → (field : List ℕ) → Type 0
ReadsOn config s fields field bytes s2 fields2 field2 =
    (after : List ℕ) → next_record config s fields field (bytes ++ after) ≡ next_record config s2 fields2 field2 after

-- whatever text comes after these bytes, the record ends with them and has these fields; what comes after it may be another record
abbrev pub EndsRecord : Config → State → Fields → (field : List ℕ) → (bytes : List ℕ) → Fields → Type 0
EndsRecord config s fields field bytes fields2 =
    (after : List ℕ) → (s2 : State) × (next_record config s fields field (bytes ++ after) ≡ Some (fields2, s2, after)) × (ends_at_end s2 ≡ false)

-- a record begins with the first of these bytes
abbrev pub BeginsRecord : List ℕ → Type 0
BeginsRecord [] = ⊥
BeginsRecord (byte ∷ bytes) = ends_line byte ≡ false

-- ---- LINES

abbrev pub is_line_feed : ℕ → Bool
is_line_feed byte = byte == line_feed

-- the line after so many bytes, the first being 1. It stops at 2^64 - 1.
abbrev pub line_after : (bytes : List ℕ) → ℕ
line_after bytes = u64_saturate (count_by is_line_feed bytes + 1)
