-- The classes of a job's faults.
use Rattle.std.specs.Prelude.{ℕ, ◌+◌, ◌*◌, Bool, true, false, List, [], ◌∷◌, Option, Some, None, codes, if◌then◌else◌, slice_get}
use Rattle.jb_base.specs.declared.class.ClassId.{ClassId}
use Rattle.jb_ready.specs.declared.fault_class.Fate.{Fate}
use Rattle.jb_ready.specs.declared.fault_class.Fate.TheVariants as fate
use Rattle.jb_ready.specs.declared.fault_class.FaultClass.{FaultClass}

abbrev pub is_skipped : Fate → Bool
is_skipped fate.Fails = false
is_skipped fate.Skipped = true
is_skipped fate.Retried = false

abbrev pub is_retried : Fate → Bool
is_retried fate.Fails = false
is_retried fate.Skipped = false
is_retried fate.Retried = true

-- the set of the classes whose faults are treated so: one bit for each class, the lowest for the first
abbrev pub set_by : (Fate → Bool) → List FaultClass → ℕ
set_by is_so [] = 0
set_by is_so (class ∷ classes) = (if is_so class.fate then 1 else 0) + 2 * set_by is_so classes

-- a class's name
abbrev pub name_by : Option FaultClass → List ℕ
name_by None = codes "a class without a name"
name_by (Some class) = class.name.now

abbrev pub class_name : List FaultClass → ClassId → List ℕ
class_name classes class = name_by (slice_get classes class.number)
