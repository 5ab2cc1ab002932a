-- What a function answers for a record.
use Rattle.std.specs.Prelude.{List, Option, None, Some}
use Rattle.std.specs.List.{filter_map}
use Rattle.jb_base.specs.declared.class.ClassId.{ClassId}
use Rattle.jb_rows.specs.Fields.{Fields}
use Rattle.jb_rows.specs.declared.row_function.Outcome.{Outcome}
use Rattle.jb_rows.specs.declared.row_function.Outcome.TheVariants as outcome

-- the fields of its result; that it is filtered; or the class of the fault with which it is refused
pub data Answer : Type 0 where
  Given : Fields → Answer
  Filtered : Answer
  Refused : ClassId → Answer

-- what a call answered, with the fields that it built
abbrev pub answered : Outcome → (built : Fields) → Answer
answered outcome.Given built = Given built
answered outcome.Filtered built = Filtered
answered (outcome.Refused class) built = Refused class

-- the result of a record, if it has one
abbrev pub result_of : Answer → Option Fields
result_of (Given fields) = Some fields
result_of Filtered = None
result_of (Refused class) = None

-- THE RESULTS OF ALL RECORDS, in order, of those that have one
abbrev pub all_results : (f : Fields → Answer) → (records : List Fields) → List Fields
all_results f records = filter_map (λ fields. result_of (f fields)) records
