use Rattle.std.proofs.Common.{◌≡◌, drop, take}
use Rattle.jb_records.proofs.new_results.written_from.Given as goal

-- the results so far
abbrev pub invariant-loop-index : goal.invariant-loop-index
invariant-loop-index g l = l.part ≡ drop l.from (take l.index (g.W.ItemWriter.writer l.writer).written)
