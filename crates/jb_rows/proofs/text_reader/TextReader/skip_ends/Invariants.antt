use Rattle.std.proofs.Common.{◌≡◌, [], ℕ, List, Some}
use Rattle.csv.specs.declared.parser.State.TheVariants as st
use Rattle.jb_rows.specs.Bytes.{ReadsOn, marks_config}
use Rattle.jb_rows.specs.Passing.{Passes}
use Rattle.jb_rows.specs.Source.{unread}
use Rattle.jb_rows.proofs.text_reader.TextReader.skip_ends.Given as goal

-- the bytes so far are between records
abbrev pub invariant-loop : goal.invariant-loop
invariant-loop g l = record {
  passed : (left : List ℕ) → unread g.R.Read.remaining l.fn.self.source ≡ Some left
      → (ends rest : List ℕ) × Passes g.R.Read.remaining l.fn.self l.self left ends rest
      × ReadsOn (marks_config l.fn.self.marks) st.StartRecord [] [] ends st.StartRecord [] [];
  marks : l.self.marks ≡ l.fn.self.marks;
}
