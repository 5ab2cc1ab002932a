-- Members of a JSON object: numbers, sets of classes and limits (own choice).
use Rattle.std.specs.Prelude.{ℕ, ◌/◌, ◌%◌, ◌^◌, ◌==◌, List, ◌∷◌, Option, None, Some, map}
use Rattle.std.specs.List.{filter, range_with_len}
use Rattle.serde_json.specs.Data.{Data, null}
use Rattle.json.specs.Token.{Token, key}
use Rattle.jb_job.specs.JobTree.{number_tree, list_tree}
use Rattle.jb_saved.specs.SavedTree.{tokens_of}

-- the numbers of the classes in a set, which has one bit for each: those below a number, and all of them
unfoldable pub classes_below : (set count : ℕ) → List ℕ
classes_below set count = filter (λ class. (set / 2 ^ class) % 2 == 1) (range_with_len 0 count)

abbrev pub classes_in : (set : ℕ) → List ℕ
classes_in set = classes_below set 64

abbrev pub classes_tree : (set : ℕ) → Data
classes_tree set = list_tree (map number_tree (classes_in set))

abbrev pub limit_tree : Option ℕ → Data
limit_tree None = null
limit_tree (Some limit) = number_tree limit

-- the tokens of a key and its value
abbrev pub member_tokens : (name : List ℕ) → Data → List Token
member_tokens name d = key name ∷ tokens_of d
