use Rattle.std.proofs.Common.{◌≡◌, ◌+◌, ◌++◌}
use Rattle.jb_records.specs.Skips.{skips_between}
use Rattle.jb_records.proofs.skips.push_skips.Given as goal

-- those so far are put behind the others
abbrev pub invariant-loop-index : goal.invariant-loop-index
invariant-loop-index g l = l.skips.items ≡ l.initial.skips.items ++ skips_between (g.F.StepFunction.function l.function) l.records l.lo (l.lo + l.index)
