-- What a contract sees of a writer that remembers what it accepted.
use Rattle.std.specs.Prelude.{ℕ, List}
use Rattle.jb_streams.specs.declared.recording.Recording.{Recording}

module _ {W : Type 0} where
  -- the bytes that the writer below accepted, in their order
  abbrev pub taken_of : Recording W → List ℕ
  taken_of it = it.taken

  -- the writer below
  abbrev pub writer_of : Recording W → W
  writer_of it = it.writer
