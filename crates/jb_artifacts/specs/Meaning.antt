-- What the artifacts of a partition mean together.
use Rattle.std.specs.Prelude.{ℕ, ◌≤◌, List, length}
use Rattle.jb_rules.specs.declared.row.Row.{Row}
use Rattle.jb_artifacts.specs.declared.view.RowView.{RowView}
use Rattle.jb_artifacts.specs.Reader.{Reader, reader_end}
use Rattle.jb_artifacts.specs.Processor.{Processor}
use Rattle.jb_artifacts.specs.Writer.{Writer}

-- a partition's reader, processor and writer, and its collector's text for each view
pub record ArtifactsMeaning : Type 0 where
  pub reader : Reader
  pub processor : Processor
  pub writer : Writer
  pub collector : RowView → List ℕ

-- the reader has the row's records, and the writer as many results as the row committed
pub record Fits (w : ArtifactsMeaning) (row : Row) : Type 0 where
  pub from : w.reader.first ≤ row.lo
  pub to : row.hi ≤ reader_end w.reader
  pub count : row.written ≤ length w.writer.written
