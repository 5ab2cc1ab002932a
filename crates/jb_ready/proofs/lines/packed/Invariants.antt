use Rattle.std.proofs.Common.{◌≡◌, map, take}
use Rattle.jb_ready.proofs.lines.packed.Given as goal

-- the strings so far are copied
abbrev pub invariant-loop-string : goal.invariant-loop-string
invariant-loop-string l = l.list ≡ map (λ string. string.now) (take l.string-index l.strings)
