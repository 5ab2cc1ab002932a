-- What the definitions of reading a saved text say of one another.
use Rattle.std.specs.Prelude.{◌≡◌, ℕ, true, codes, Option, Some, Result, Ok}
use Rattle.serde_json.specs.Data.{Data, string}
use Rattle.serde_json.specs.Find.{get}
use Rattle.serde_json.specs.Read.{read}
use Rattle.serde_json.specs.Written.{compact_text}
use Rattle.jb_saved.specs.declared.place.SavedPlace.{SavedPlace}
use Rattle.jb_saved.specs.Answers.{IsSavedAnswer}
use Rattle.jb_saved.specs.Reading.{answer_of, saved_at}
use Rattle.jb_saved.specs.SavedForm.{keyed}
use Rattle.jb_saved.specs.SavedRows.{SavedRows, IsSaved}
use Rattle.jb_saved.specs.SavedTree.{number_tree, is_known, CanHold, rows_tree_in, saved_tree}

-- the answer is the one that the row rules allow: each row before the named one fits, and the named one doesn't
abbrev pub AnswerIsComputed : Type 0
AnswerIsComputed = (tree : Option Data) → IsSavedAnswer tree (answer_of tree)

-- a text has one answer
abbrev pub OneAnswer : Type 0
OneAnswer = (tree : Option Data) (one other : Result SavedRows SavedPlace) → IsSavedAnswer tree one → IsSavedAnswer tree other → one ≡ other

-- the compact text of saved rows has their tree, whatever bytes their id has
abbrev pub TextIsRead : Type 0
TextIsRead = (s : SavedRows) → IsSaved s → read (compact_text (saved_tree s)) ≡ Some (saved_tree s)

-- A saved object of a known version that can hold these rows. It has the keys of one and no other, in any order, and they hold
-- what the tree of this version holds.
pub record IsSavedTree (n : ℕ) (d : Data) (s : SavedRows) : Type 0 where
  pub known : is_known n ≡ true
  pub holds : CanHold n s.rows
  pub keys : keyed d ≡ Some d
  pub rows : get (codes "rows") d ≡ Some (rows_tree_in n s.rows)
  pub step : get (codes "step") d ≡ Some (string s.step)
  pub version : get (codes "version") d ≡ Some (number_tree n)

-- a saved object of either version is read as its rows
abbrev pub SavedTreesAreRead : Type 0
SavedTreesAreRead = (n : ℕ) (d : Data) (s : SavedRows) → IsSavedTree n d s → IsSaved s → saved_at d ≡ Ok s

-- the tree that is written is one
abbrev pub TreeIsRead : Type 0
TreeIsRead = (s : SavedRows) → IsSaved s → saved_at (saved_tree s) ≡ Ok s

-- and rows are read of no other tree
abbrev pub OnlySavedTrees : Type 0
OnlySavedTrees = (d : Data) (s : SavedRows) → saved_at d ≡ Ok s → (n : ℕ) × IsSavedTree n d s
