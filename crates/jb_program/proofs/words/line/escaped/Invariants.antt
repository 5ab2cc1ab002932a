use Rattle.std.proofs.Common.{◌≡◌, flat_map, string_bytes}
use Rattle.jb_program.specs.UsageText.{shown}
use Rattle.jb_program.proofs.words.line.escaped.Given as goal

-- the text has the characters so far
abbrev pub invariant-loop-character : goal.invariant-loop-character
invariant-loop-character l = string_bytes l.text ≡ flat_map shown l.yielded
