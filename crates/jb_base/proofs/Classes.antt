-- Fault classes and their numbers.
use Rattle.std.proofs.Common.{◌≡◌, ℕ, ◌<◌, ◌-◌, min, ap, subst, arith}
use Rattle.std.proofs.Math.Nat.{min-eq_left}
use Rattle.std.proofs.Math.Bridge.{le_prop}
use Rattle.jb_base.specs.Limits.{max_classes}
use Rattle.jb_base.specs.Classes.{class_of}
use Rattle.jb_base.specs.declared.class.ClassId.{ClassId}

numbered : (n : ℕ) → n < max_classes → ClassId
numbered n small = record { number = n; below = small }

same_class : (n m : ℕ) (h : n < max_classes) (k : m < max_classes) → n ≡ m → numbered n h ≡ numbered m k
same_class n m h k e = let P : ℕ → Type 0 = λ other. (small : other < max_classes) → numbered n h ≡ numbered other small in subst P e (λ small. ap (numbered n) (le_prop h small)) k

-- a class is that of its number
pub class_of-number : (class : ClassId) → class_of class.number ≡ class
unfolding class_of numbered
class_of-number class = same_class (min class.number (max_classes - 1)) class.number _ class.below (min-eq_left (omega (arith, class.below)))
