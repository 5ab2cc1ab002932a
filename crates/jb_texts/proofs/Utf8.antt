-- Bytes that are UTF-8 stand for themselves.
use Rattle.std.specs.Prelude.{◌≡◌, ℕ, List}
use Rattle.std.specs.Str.{IsAscii}
use Rattle.std.specs.Str.Lossy.{utf8_lossy}
use Rattle.std.proofs.lemmas.Str.{IsUtf8-from_ascii, utf8_lossy-IsUtf8}

pub ruleset lossy = (utf8_lossy-IsUtf8, utf8_lossy-IsUtf8)

pub utf8_lossy-ascii : (bs : List ℕ) → IsAscii bs → utf8_lossy bs ≡ bs
utf8_lossy-ascii bs ascii = utf8_lossy-IsUtf8 bs (IsUtf8-from_ascii bs ascii)
