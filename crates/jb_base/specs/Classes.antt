-- The fault class of a number.
use Rattle.std.specs.Prelude.{ℕ, ◌-◌, min}
use Rattle.std.proofs.Common.{suc-le-suc}
use Rattle.std.proofs.Math.Nat.{min-le_right}
use Rattle.jb_base.specs.Limits.{max_classes}
use Rattle.jb_base.specs.declared.class.ClassId.{ClassId}

-- The class of a number below the limit of a job's classes. No job has a class of a larger number, so its value doesn't matter.
unfoldable pub class_of : ℕ → ClassId
class_of number = record { number = min number (max_classes - 1); below = suc-le-suc (min-le_right number (max_classes - 1)) }
