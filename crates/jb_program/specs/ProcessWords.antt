-- The arguments of the process, after the program's name.
use Rattle.std.specs.Prelude.{List, Option, Some, None, drop, map, Result, Ok, Err, string_bytes}
use Rattle.std.specs.declared.string.String.{String}
use Rattle.std.specs.declared.alloc.Global.{Global}
use Rattle.std.specs.declared.vec.IntoIter.{IntoIter}
use Rattle.std.specs.declared.io.Error.{Error}
use Rattle.std.specs.Vec.Iter.{into_iter_items}
use Rattle.clap.specs.Words.{Text}

-- `None` if an argument is no text, or there was no memory for them
abbrev pub process_words : Result (IntoIter (String Global) Global) Error → Option (List Text)
process_words (Ok args) = Some (drop 1 (map string_bytes (into_iter_items args)))
process_words (Err e) = None
