use Rattle.std.proofs.Common.{◌≡◌, ℕ, List, ◌++◌, take}
use Rattle.std.specs.Io.KnownBytes.{Appends}
use Rattle.std.specs.List.{enumerate_from}
use Rattle.jb_cert.specs.WrapAround.{wrapped_rounds}
use Rattle.jb_texts.specs.PlanText.{lines_of}
use Rattle.jb_texts.proofs.plan.lines.write_lines.Given as goal

-- the lines so far are written, or wait in the block
abbrev pub invariant-loop-round : goal.invariant-loop-round
invariant-loop-round g l = (passed : List ℕ) × Appends (g.W.Write.contents l.initial.writer) (g.W.Write.contents l.writer) passed
    × (passed ++ l.block.items ≡ l.fn.block.items ++ lines_of l.cursor.threads (enumerate_from 0 (take l.round (wrapped_rounds l.cursor.counts l.cursor.threads))))
