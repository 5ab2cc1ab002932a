-- The JSON tree of saved rows (own choice).
use Rattle.std.specs.Prelude.{◌≡◌, ℕ, ◌==◌, Bool, if◌then◌else◌, nat_le, ◌&&◌, List, [], ◌∷◌, ◌++◌, map, take, slice_get, Some, codes}
use Rattle.json.specs.Token.{Token}
use Rattle.json.specs.Tree.{json_tokens}
use Rattle.serde_json.specs.Data.{Data, string, object, member, no_members}
use Rattle.serde_json.specs.Written.{outline}
pub use Rattle.jb_job.specs.JobTree.{number_tree, list_tree}
use Rattle.jb_rules.specs.declared.row.Row.{Row}
use Rattle.jb_rules.specs.Numbers.{numbers_of, state_name}
use Rattle.jb_saved.specs.SavedRows.{SavedRows}

-- ---- versions

-- the version that is written
abbrev pub version : ℕ
version = 2

-- the versions that are read
abbrev pub is_known : (version : ℕ) → Bool
is_known n = nat_le 1 n && nat_le n version

-- how many of a row's numbers are listed: the first version has no calls that are repeated in place
abbrev pub listed : (version : ℕ) → ℕ
listed n = if n == 1 then 14 else 15

-- the version can hold these rows: the first one those of which no call was repeated in place
abbrev pub CanHold : (version : ℕ) → List Row → Type 0
CanHold n rows = n ≡ 1 → (i : ℕ) (r : Row) → slice_get rows i ≡ Some r → r.in_place ≡ 0

-- ---- the tree, in a version

-- the numbers of a row that are listed, and the name of its state
abbrev pub row_tree_in : (version : ℕ) → Row → Data
row_tree_in n r = list_tree (map number_tree (take (listed n) (numbers_of r)) ++ string (state_name r.state) ∷ [])

abbrev pub rows_tree_in : (version : ℕ) → List Row → Data
rows_tree_in n rows = list_tree (map (row_tree_in n) rows)

-- the saved object, its keys in byte order
abbrev pub saved_tree_in : (version : ℕ) → SavedRows → Data
saved_tree_in n s = object
    (member (codes "rows") (rows_tree_in n s.rows)
    (member (codes "step") (string s.step)
    (member (codes "version") (number_tree n) no_members)))

-- ---- what is written

abbrev pub row_tree : Row → Data
row_tree = row_tree_in version

abbrev pub rows_tree : List Row → Data
rows_tree = rows_tree_in version

abbrev pub saved_tree : SavedRows → Data
saved_tree = saved_tree_in version

-- the tokens of a tree, as it is written
abbrev pub tokens_of : Data → List Token
tokens_of d = json_tokens (outline d)
