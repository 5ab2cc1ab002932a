use Rattle.std.proofs.Common.{take}
use Rattle.jb_slice_run.specs.Work.{HaveRowsEnded}
use Rattle.jb_slice_run.proofs.resumable_run.have_ended.Given as goal

-- the rows so far have ended
abbrev pub invariant-loop-row : goal.invariant-loop-row
invariant-loop-row l = HaveRowsEnded (take l.row-index l.rows)
