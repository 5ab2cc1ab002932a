-- Trees that borrow their text, as `json` makes them: no text in one is a string by itself. What they are as data is what
-- the text is, as `serde_json` reads it.
use Rattle.std.specs.Prelude.{◌≡◌, ℕ, ◌≤◌, ◌&&◌, Bool, true, List, [], ◌∷◌, Option, Some, None, is_some}
use Rattle.json.specs.Json as json
use Rattle.json.specs.Json.{Json}
use Rattle.json.specs.Find.{get_member}
use Rattle.json.specs.Tree.{depth, HasNumbers}
use Rattle.json.specs.Value.{value_view, items_view}
use Rattle.json.specs.declared.value.Value.{Value}
use Rattle.serde_json.specs.Data.{Data, Num, null, boolean, number, string, array, object, Items, no_items, item, Members, no_members, put}
use Rattle.serde_json.specs.Read.{number_of, max_depth}

-- ---- what a tree is

-- a number in the range of numbers; for one that isn't, whose text has no tree, it is no matter
abbrev pub number_data : Option Num → Data
number_data None = null
number_data (Some n) = number n

-- the members go in one after another, so the last value of a key stays
abbrev mutual
  pub data_of : Json → Data
  data_of json.null = null
  data_of (json.boolean b) = boolean b
  data_of (json.number s) = number_data (number_of s)
  data_of (json.string s) = string s
  data_of (json.array js) = array (items_data js)
  data_of (json.object ms) = object (members_data ms no_members)

  pub items_data : json.Items → Items
  items_data json.no_items = no_items
  items_data (json.item j js) = item (data_of j) (items_data js)

  pub members_data : json.Members → Members → Members
  members_data json.no_members found = found
  members_data (json.member k j ms) found = members_data ms (put k (data_of j) found)

-- each number is in range
abbrev mutual
  pub in_range : Json → Bool
  in_range json.null = true
  in_range (json.boolean b) = true
  in_range (json.number s) = is_some (number_of s)
  in_range (json.string s) = true
  in_range (json.array js) = items_in_range js
  in_range (json.object ms) = members_in_range ms

  pub items_in_range : json.Items → Bool
  items_in_range json.no_items = true
  items_in_range (json.item j js) = in_range j && items_in_range js

  pub members_in_range : json.Members → Bool
  members_in_range json.no_members = true
  members_in_range (json.member k j ms) = in_range j && members_in_range ms

-- what code sees of a tree, and of trees
abbrev pub seen : {A : Type 0} → Value A → Data
seen tree = data_of (value_view tree)

abbrev pub items_seen : {A : Type 0} → List (Value A) → Items
items_seen trees = items_data (items_view trees)

-- a tree that can be printed and read again
pub record IsReadable (tree : Json) : Type 0 where
  pub numbers : HasNumbers tree
  pub nests : depth tree ≤ max_depth
  pub ranges : in_range tree ≡ true

-- ---- a member that is taken out of an object

-- the keys of an object's members
abbrev pub keys : json.Members → List (List ℕ)
keys json.no_members = []
keys (json.member k j ms) = k ∷ keys ms

-- the members of the front, and then the others
abbrev pub members_joined : json.Members → json.Members → json.Members
members_joined json.no_members back = back
members_joined (json.member k j ms) back = json.member k j (members_joined ms back)

-- the last member of a name, and the object without it
pub record IsApart (name : List ℕ) (whole part rest : Json) : Type 0 where
  pub front : json.Members
  pub back : json.Members
  pub whole_is : whole ≡ json.object (members_joined front (json.member name part back))
  pub rest_is : rest ≡ json.object (members_joined front back)
  pub last : get_member name back ≡ None
