use Rattle.std.proofs.Common.{◌≡◌, ◌≤◌, ◌++◌, ℕ, List, length}
use Rattle.std.specs.List.{All}
use Rattle.jb_rows.specs.Fields.{Fields, packed}
use Rattle.jb_rows.specs.Places.{AreLinesFrom}
use Rattle.jb_rows.specs.Streams.{HasGivenRows, longest_of}
use Rattle.jb_rows.specs.declared.rows_options.RowsOptions.{RowsOptions}
use Rattle.jb_rows.proofs.rows_reader.RowsReader.next_rows.Given as goal

-- the reader has given the records so far after those before, and each is short enough
abbrev pub invariant-loop : goal.invariant-loop
invariant-loop g l = record {
  given : (options : RowsOptions) (text : List ℕ) (before : List Fields) → HasGivenRows options g.R.Read.remaining l.fn.self text before
      → HasGivenRows options g.R.Read.remaining l.self text (before ++ l.rows);
  most : length l.rows ≡ l.counter;
  short : All (λ fields. length (packed fields) ≤ longest_of l.fn.self) l.rows;
  lines : (options : RowsOptions) (text : List ℕ) (before : List Fields) → HasGivenRows options g.R.Read.remaining l.fn.self text before
      → AreLinesFrom options text (length before) l.self.lines.items;
  counted : length l.self.lines.items ≡ length l.rows;
  longest : longest_of l.self ≡ longest_of l.fn.self;
}
