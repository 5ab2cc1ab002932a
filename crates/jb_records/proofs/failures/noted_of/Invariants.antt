use Rattle.std.proofs.Common.{◌≡◌, drop}
use Rattle.jb_records.specs.Failures.{fault_noted}
use Rattle.jb_records.proofs.failures.noted_of.Given as goal

-- it is among those that are left
abbrev pub invariant-loop-one : goal.invariant-loop-one
invariant-loop-one g l =
    fault_noted (drop l.one-index l.artifacts) l.partition (λ a. a.inner.processor.notes) ≡ fault_noted l.artifacts l.partition (λ a. a.inner.processor.notes)
