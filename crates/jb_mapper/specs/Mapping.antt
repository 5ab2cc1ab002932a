-- What a partition mapper means.
use Rattle.std.specs.Prelude.{ℕ, Bool, Result, Ok}
use Rattle.jb_base.specs.declared.class.ClassId.{ClassId}
use Rattle.jb_plan.specs.declared.plan.PartitionPlan.{PartitionPlan}
use Rattle.jb_mapper.specs.EvenCover.{even_ranges}

-- the plan or the fault class that a mapper has for each number of records
abbrev pub Mapping : Type 0
Mapping = ℕ → Result PartitionPlan ClassId

-- the same plan for each number of records
abbrev pub fixed : PartitionPlan → Mapping
fixed plan records = Ok plan

-- so many even ranges
abbrev pub even : (parts threads : ℕ) → (replace : Bool) → Mapping
even parts threads replace records = Ok (record { ranges = even_ranges records parts; threads = threads; replace = replace })
