use Rattle.std.proofs.Common.{◌≡◌, take}
use Rattle.jb_records.specs.Skips.{skipped_of}
use Rattle.jb_records.proofs.skips.skipped_of.Given as goal

-- those of the rows so far
abbrev pub invariant-loop-row : goal.invariant-loop-row
invariant-loop-row g l = l.skips.items ≡ skipped_of (g.F.StepFunction.function l.function) l.records (take l.row-index l.rows)
