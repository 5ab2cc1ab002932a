use Rattle.std.proofs.Common.{◌≡◌, ℕ}
use Rattle.jb_artifacts.specs.Faults.{plans_of}
use Rattle.jb_records.specs.Artifacts.{IsNeverSkipped}
use Rattle.jb_records.proofs.Trying.{tries-of}
use Rattle.jb_records.proofs.artifacts.tries_of.Given as goal

-- the tries at the records so far
abbrev pub invariant-loop-index : goal.invariant-loop-index
invariant-loop-index g l = ((k : ℕ) → IsNeverSkipped l.rules (plans_of l.tries k)) × ((k : ℕ) → plans_of l.tries k ≡ tries-of (g.F.StepFunction.function l.function) l.first l.records l.index k)
