use Rattle.std.proofs.Common.{map, take}
use Rattle.std.specs.List.{concat}
use Rattle.std.specs.Io.KnownBytes.{Appends}
use Rattle.jb_texts.proofs.whole.write_joined.Given as goal

-- the texts so far are written
abbrev pub invariant-loop-text : goal.invariant-loop-text
invariant-loop-text g l = Appends (g.W.Write.contents l.initial.writer) (g.W.Write.contents l.writer) (concat (map (λ t. t.now) (take l.text-index l.texts)))
