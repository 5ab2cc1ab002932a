use Rattle.std.proofs.Common.{flat_map, take}
use Rattle.jb_texts.specs.inside.Parts.{PassesOn, part_text}
use Rattle.jb_texts.proofs.report.finished.put_parts.Given as goal

-- the parts so far are written, or wait in the block
abbrev pub invariant-loop-part : goal.invariant-loop-part
invariant-loop-part g l = PassesOn (g.W.Write.contents l.initial.writer) (g.W.Write.contents l.writer) l.fn.block.items (flat_map part_text (take l.part-index l.parts)) l.block.items
