-- The order of the faults that a document plans for an artifact.
use Rattle.std.specs.Prelude.{List}
use Rattle.std.specs.List.Sorted.{IsNonDecreasingBy}
use Rattle.jb_documents.specs.declared.run.faults.PlannedFault.{PlannedFault}

-- None is for an earlier record than the one before it.
abbrev pub AreFaultsInOrder : List PlannedFault → Type 0
AreFaultsInOrder faults = IsNonDecreasingBy (λ fault. fault.number) faults
