-- What a job does to an item, and what its rules let pass.
use Rattle.std.specs.Prelude.{ℕ, suc, ◌≡◌, ◌≤◌, true, List, [], ◌∷◌, length, Option, Some, None, MatchOption, option_map, ⊤}
use Rattle.std.specs.List.{AllByRecursion, filter_map}
use Rattle.jb_base.specs.Rules.{RulesRecord}
use Rattle.jb_base.specs.declared.class.ClassId.{ClassId}
use Rattle.jb_rows.specs.Answers.{Answer, Filtered, Given, Refused}
use Rattle.jb_rows.specs.Answers as rows
use Rattle.jb_rows.specs.Fields.{Fields, fields_in, packed}
use Rattle.jb_rules.specs.Decide.{has_class}

-- the answer for the fields of an item; an item is a record, its fields packed in one string of bytes
abbrev pub Function : Type 0
Function = Fields → Answer

-- the result in an answer, packed, and the class of the fault with which an item is refused
abbrev pub result_in : Answer → Option (List ℕ)
result_in answer = option_map packed (rows.result_of answer)

abbrev pub refusal_in : Answer → Option ClassId
refusal_in (Given fields) = None
refusal_in Filtered = None
refusal_in (Refused class) = Some class

abbrev pub result_of : Function → (item : List ℕ) → Option (List ℕ)
result_of f item = result_in (f (fields_in item))

abbrev pub refusal_of : Function → (item : List ℕ) → Option ClassId
refusal_of f item = refusal_in (f (fields_in item))

-- THE RESULTS of the items that have one, in order
abbrev pub all_results : Function → (items : List (List ℕ)) → List (List ℕ)
all_results f items = filter_map (result_of f) items

-- the classes of their faults, in order
abbrev pub fault_classes : Function → (items : List (List ℕ)) → List ClassId
fault_classes f items = filter_map (refusal_of f) items

-- a fault: the number of its item, and its class
pub record Fault : Type 0 where
  pub number : ℕ
  pub class : ClassId

abbrev pub fault_and : (number : ℕ) → (refusal : Option ClassId) → (later : List Fault) → List Fault
fault_and number None later = later
fault_and number (Some class) later = record { number = number; class = class } ∷ later

-- THE FAULTS of items, the first of which has this number
abbrev pub faults_from : Function → (first : ℕ) → (items : List (List ℕ)) → List Fault
faults_from f first [] = []
faults_from f first (item ∷ items) = fault_and first (refusal_of f item) (faults_from f (suc first) items)

-- THE RULES LET THESE FAULTS PASS: each may be skipped, and they are no more than the limit. A function gives the same fault at each try, so
-- a retry changes nothing.
pub record Pass (rules : RulesRecord) (classes : List ClassId) : Type 0 where
  pub skippable : AllByRecursion (λ class. has_class rules.skippable class ≡ true) classes
  pub few : MatchOption rules.skip_limit ⊤ (λ limit. length classes ≤ limit)

-- the items pass
abbrev pub ItemsPass : Function → RulesRecord → (items : List (List ℕ)) → Type 0
ItemsPass f rules items = Pass rules (fault_classes f items)
