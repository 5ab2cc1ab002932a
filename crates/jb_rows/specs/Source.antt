-- What a stream has left.
use Rattle.std.specs.Prelude.{ℕ, List, Option, if◌then◌else◌, option_map}
use Rattle.std.specs.Io.KnownBytes.{prepend_known}
use Rattle.csv.specs.Reading.{strip_bom}
use Rattle.jb_rows.specs.declared.byte_source.ByteSource.{ByteSource}

-- the bytes of the text that were not used, if they are known: those that were read, and then those of the stream
abbrev pub unread : {R : Type 0} → (remaining : R → Option (List ℕ)) → ByteSource R → Option (List ℕ)
unread remaining source = if source.is_begun then prepend_known source.window (remaining source.stream) else option_map strip_bom (remaining source.stream)
