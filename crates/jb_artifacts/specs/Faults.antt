-- When the calls of an artifact for a record fail (own choice: each fault is planned for a record by its number).
use Rattle.std.specs.Prelude.{ℕ, ◌==◌, List, Bool, if◌then◌else◌, ◌∷◌, Option, Some, None, is_some, unwrap_or}
use Rattle.std.specs.Ordering.{nat_cmp}
use Rattle.std.specs.BTreeMap.{is_at}
use Rattle.std.specs.Map.{lookup}
use Rattle.jb_base.specs.declared.class.ClassId.{ClassId}
use Rattle.jb_artifacts.specs.declared.faults.FaultPlan.{FaultPlan}
use Rattle.jb_artifacts.specs.declared.faults.FaultPlan.TheVariants.{Sound, Bad, Shaky}

-- the class with which the next call fails, if it does
abbrev pub live : FaultPlan → Option ClassId
live (Bad class) = Some class
live (Shaky (class ∷ later)) = Some class
live _ = None

-- the plan after a call: a shaky one has used its first class
abbrev pub used : FaultPlan → FaultPlan
used (Shaky (class ∷ later)) = Shaky later
used plan = plan

-- a fault plan for each record's number
abbrev pub FaultTable : Type 0
FaultTable = ℕ → FaultPlan

-- the call for record `k` fails
abbrev pub is_live : FaultTable → ℕ → Bool
is_live plans k = is_some (live (plans k))

-- the plans after a call for record `k`
unfoldable pub used_at : FaultTable → ℕ → FaultTable
used_at plans k = λ j. if j == k then used (plans j) else plans j

-- the plans with this one for record `k`
abbrev pub with_plan : FaultTable → ℕ → FaultPlan → FaultTable
with_plan plans k plan = λ j. if j == k then plan else plans j

-- the table of a list of plans for some records; every other record is sound
abbrev pub plans_of : List (ℕ × FaultPlan) → FaultTable
plans_of entries = λ k. unwrap_or (lookup (is_at (nat_cmp k)) entries) Sound
