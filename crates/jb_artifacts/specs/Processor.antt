-- What an item processor means (Jakarta Batch 2.1, "ItemProcessor"). Own choices: there is one answer per record and
-- item, and faults are planned.
use Rattle.std.specs.Prelude.{ℕ, List, Option}
use Rattle.jb_base.specs.declared.class.ClassId.{ClassId}
use Rattle.jb_artifacts.specs.Faults.{FaultTable, live, used_at}

-- an answer per number and item (None filters the item), and a fault plan per number
pub record Processor : Type 0 where
  pub answer : ℕ → List ℕ → Option (List ℕ)
  pub faults : FaultTable

-- the fault of the record's plan, if it has one
abbrev pub process_fault : Processor → ℕ → Option ClassId
process_fault p k = live (p.faults k)

-- the record's plan advances by one call, and the answers stay
abbrev pub after_process : Processor → ℕ → Processor
after_process p k = record p { faults = used_at p.faults k }
