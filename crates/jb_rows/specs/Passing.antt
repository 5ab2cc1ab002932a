-- What a reader of a text passes on its way, if the bytes that it has left are known.
use Rattle.std.specs.Prelude.{ℕ, ◌≡◌, ◌++◌, ◌+◌, ◌<◌, ◌∷◌, Bool, true, List, [], Option, Some, count_by, length}
use Rattle.std.specs.Bool.{MatchBool}
use Rattle.std.specs.Io.Iter.{u64_saturate}
use Rattle.csv.specs.Machine.{Read, next_record}
use Rattle.csv.specs.declared.parser.State.TheVariants as st
use Rattle.jb_rows.specs.Bytes.{BeginsRecord, EndsRecord, ReadsOn, is_line_feed, line_after, marks_config}
use Rattle.jb_rows.specs.Fields.{Fields, packed}
use Rattle.jb_rows.specs.Source.{unread}
use Rattle.jb_rows.specs.TextLines.{ends_line}
use Rattle.jb_rows.specs.declared.text_reader.TextReader.{TextReader}

-- the line in which it was was that after some bytes; now it is that after these too
abbrev pub Counts : (old new : ℕ) → (bytes : List ℕ) → Type 0
Counts old new bytes = (before : List ℕ) → old ≡ line_after before → new ≡ line_after (before ++ bytes)

-- of the bytes that were left it passed these, and counted their line feeds; the rest is left
abbrev pub Passes : {R : Type 0} → (remaining : R → Option (List ℕ)) → (old new : TextReader R) → (left bytes rest : List ℕ) → Type 0
Passes remaining old new left bytes rest =
    (left ≡ bytes ++ rest) × (unread remaining new.source ≡ Some rest) × Counts old.line new.line bytes

-- it passed one byte between records, or is where a record begins
abbrev pub PassesEnd : {R : Type 0} → (old new : TextReader R) → (passed : Bool) → Type 0
PassesEnd old new passed = MatchBool passed
    ((byte : ℕ) × (rest : List ℕ) × (old.source.window ≡ byte ∷ rest) × (ends_line byte ≡ true)
    × (new.source ≡ record old.source { window = rest }) × (new.marks ≡ old.marks) × (new.line ≡ u64_saturate (old.line + count_by is_line_feed (byte ∷ []))))
    ((new ≡ old) × BeginsRecord old.source.window)

-- it passed bytes between records; a record begins after them, or nothing is left
abbrev pub PassesEnds : {R : Type 0} → (remaining : R → Option (List ℕ)) → (old new : TextReader R) → (found : Bool) → Type 0
PassesEnds remaining old new found = (left : List ℕ) → unread remaining old.source ≡ Some left
    → (ends rest : List ℕ) × Passes remaining old new left ends rest × ReadsOn (marks_config old.marks) st.StartRecord [] [] ends st.StartRecord [] []
    × MatchBool found (BeginsRecord rest) (rest ≡ [])

-- it passed a record of these fields, which ends by a byte or with the text
abbrev pub PassesRecord : {R : Type 0} → (remaining : R → Option (List ℕ)) → (old new : TextReader R) → Fields → (is_last : Bool) → Type 0
PassesRecord remaining old new fields is_last = (left : List ℕ) → unread remaining old.source ≡ Some left
    → (bytes rest : List ℕ) × Passes remaining old new left bytes rest
    × MatchBool is_last ((rest ≡ []) × (next_record (marks_config old.marks) st.StartField [] [] bytes ≡ Some (fields, st.StartRecord, [])))
    ((0 < length bytes) × EndsRecord (marks_config old.marks) st.StartField [] [] bytes fields)

-- the record that begins with the bytes that are left is longer, packed
abbrev pub IsLonger : {R : Type 0} → (remaining : R → Option (List ℕ)) → TextReader R → (longest : ℕ) → Type 0
IsLonger remaining reader longest = (left : List ℕ) → unread remaining reader.source ≡ Some left
    → (read : Read) × (next_record (marks_config reader.marks) st.StartField [] [] left ≡ Some read) × (longest < length (packed read.0))
