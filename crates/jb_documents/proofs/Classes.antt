-- Fault classes and their places among the names of a job.
use Rattle.std.proofs.Common.{◌≡◌, ℕ, Option, Some, Ok, option_map, sym, ap, ◌∙◌}
use Rattle.jb_base.specs.declared.class.ClassId.{ClassId}
use Rattle.jb_base.proofs.Classes.{class_of-number}
use Rattle.jb_documents.specs.FaultLists.{known_class}

pub known_class-place : (found : Option ClassId) (place : Option ℕ) (class : ClassId) → found ≡ Some class → option_map (λ c. c.number) found ≡ place → known_class place ≡ Ok class
known_class-place found place class is e = ap known_class (sym e ∙ ap (option_map (λ c. c.number)) is) ∙ ap Ok (class_of-number class)
