use Rattle.std.proofs.Common.{◌+◌}
use Rattle.jb_records.specs.Following.{FollowsRules}
use Rattle.jb_records.proofs.Stopping.{HavePassed}
use Rattle.jb_records.proofs.stops.stop_of.Given as goal

-- the faults of the records so far pass
abbrev pub invariant-loop-index : goal.invariant-loop-index
invariant-loop-index g l =
    FollowsRules (g.F.StepFunction.function l.function) l.rules l.records l.row → HavePassed (g.F.StepFunction.function l.function) l.rules l.records l.row (l.from + l.index) l.skips
