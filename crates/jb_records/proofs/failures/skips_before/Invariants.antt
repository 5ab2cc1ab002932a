use Rattle.std.proofs.Common.{◌+◌}
use Rattle.jb_records.specs.inside.Attempts.{IsReached}
use Rattle.jb_records.proofs.failures.skips_before.Given as goal

-- the attempt comes to the next record
abbrev pub invariant-loop-index : goal.invariant-loop-index
invariant-loop-index g l = IsReached (g.F.StepFunction.function l.function) l.rules l.records l.row (l.row.at + l.index) l.skips
