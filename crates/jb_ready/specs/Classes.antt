-- Sets of fault classes.
use Rattle.std.specs.Prelude.{ℕ, ◌↔◌, IsTrue, List, Contains}
use Rattle.jb_base.specs.declared.class.ClassId.{ClassId}
use Rattle.jb_rules.specs.Decide.{has_class}

-- THE SET OF THESE CLASSES, as a step's rules have it: each of them is in it, and no other class
abbrev pub IsSetOf : (set : ℕ) → List ClassId → Type 0
IsSetOf set classes = (class : ClassId) → IsTrue (has_class set class) ↔ Contains classes class
