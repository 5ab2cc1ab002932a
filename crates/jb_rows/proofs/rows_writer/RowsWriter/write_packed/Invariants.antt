use Rattle.std.proofs.Common.{ℕ, map, take}
use Rattle.std.specs.Io.KnownBytes.{Appends}
use Rattle.jb_rows.specs.Fields.{fields_in}
use Rattle.jb_rows.specs.Streams.{IsBetweenRows, csv_rows, rows_written}
use Rattle.jb_rows.proofs.rows_writer.RowsWriter.write_packed.Given as goal

-- the lines of the records so far are written
abbrev pub invariant-loop-index : goal.invariant-loop-index
invariant-loop-index g l = (delimiter : ℕ) → IsBetweenRows delimiter l.fn.self → IsBetweenRows delimiter l.self
    × Appends (rows_written g.W.Write.contents l.fn.self) (rows_written g.W.Write.contents l.self) (csv_rows delimiter (map fields_in (take l.index l.records)))
