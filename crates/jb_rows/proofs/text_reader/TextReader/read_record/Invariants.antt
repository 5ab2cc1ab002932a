use Rattle.std.proofs.Common.{◌≡◌, [], ℕ, List, Some}
use Rattle.csv.specs.declared.parser.State.TheVariants as st
use Rattle.jb_rows.specs.Bytes.{ReadsOn, csv_state, marks_config}
use Rattle.jb_rows.specs.Passing.{Passes}
use Rattle.jb_rows.specs.Source.{unread}
use Rattle.jb_rows.proofs.text_reader.TextReader.read_record.Given as goal

-- the bytes so far are those of the record, and its fields so far are in the row, and the bytes of one more
abbrev pub invariant-loop : goal.invariant-loop
invariant-loop g l = record {
  passed : (left : List ℕ) → unread g.R.Read.remaining l.fn.self.source ≡ Some left
      → (bytes rest : List ℕ) × Passes g.R.Read.remaining l.fn.self l.self left bytes rest
      × ReadsOn (marks_config l.fn.self.marks) st.StartField [] [] bytes (csv_state l.place) l.row l.field.items;
  marks : l.self.marks ≡ l.fn.self.marks;
}
