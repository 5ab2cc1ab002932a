-- The lines of a text, and that they are its records if it is read as lines.
use Rattle.std.specs.Prelude.{ℕ, ◌≡◌, ◌++◌, ◌∷◌, ◌==◌, ◌||◌, Bool, false, List, [], if◌then◌else◌, map}
use Rattle.std.specs.List.{list_any}
use Rattle.csv.specs.Machine.{carriage_return, line_feed}
use Rattle.csv.specs.Reading.{strip_bom}
use Rattle.jb_rows.specs.Fields.{Fields}
use Rattle.jb_rows.specs.Texts.{AreRowsOf, header_of}
use Rattle.jb_rows.specs.declared.input.Input.TheVariants as input
use Rattle.jb_rows.specs.declared.rows_options.RowsOptions.{RowsOptions}

-- Between a carriage return and the line feed after it there is an empty line, which is none.
abbrev pub ends_line : (byte : ℕ) → Bool
ends_line byte = (byte == carriage_return) || (byte == line_feed)

-- a line and those after it; an empty line is none
abbrev pub line_and : (line : List ℕ) (later : List (List ℕ)) → List (List ℕ)
line_and [] later = later
line_and (byte ∷ line) later = (byte ∷ line) ∷ later

-- the lines of a text, with these bytes before it in its first line
unfoldable pub lines_after : (begun text : List ℕ) → List (List ℕ)
lines_after begun [] = line_and begun []
lines_after begun (byte ∷ text) = if ends_line byte then line_and begun (lines_after [] text) else lines_after (begun ++ byte ∷ []) text

-- THE LINES OF A TEXT, without its byte order mark
abbrev pub lines_of : (text : List ℕ) → List (List ℕ)
lines_of text = lines_after [] (strip_bom text)

abbrev pub one_field : (line : List ℕ) → Fields
one_field line = line ∷ []

-- THE LAW OF LINES: the records of a text that is read as lines are its lines, each a record of one field, if no byte of it is 0
abbrev pub LinesAreRecords : Type 0
LinesAreRecords = (options : RowsOptions) (text : List ℕ) (records : List Fields) → options.input ≡ input.Lines → list_any (λ byte. byte == 0) text ≡ false
    → AreRowsOf options text records → header_of options text ++ records ≡ map one_field (lines_of text)
