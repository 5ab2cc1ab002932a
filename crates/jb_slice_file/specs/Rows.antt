-- The list of checkpoints, and the rows that hold it.
use Rattle.std.specs.Prelude.{◌≡◌, ◌≢◌, ◌⊎◌, ◌++◌, ◌≤◌, ◌<◌, ◌+◌, ◌^◌, ℕ, suc, List, [], ◌∷◌, length, map, IsPermutation}
use Rattle.sqlite.specs.declared.types.Value.TheVariants.{Null, Int, Text as Words, Blob as Bytes}
use Rattle.sqlite.specs.Order.{Row}
use Rattle.sqlite.specs.Tree.{Trees}
use Rattle.sqlite.specs.Effect.{Database}
use Rattle.sqlite_catalog.specs.Listing.{IsSound}
use Rattle.jb_slice_file.specs.CheckpointBytes.{CheckpointBytes}
use Rattle.jb_slice_file.specs.Chain.{Linked, chained, last_link, link_of}
use Rattle.jb_slice_file.specs.Numbered.{Numbered, numbered_from}
use Rattle.jb_slice_file.specs.TableSchema.{checkpoint_schema, no_schema}

-- the row of a checkpoint: SQLite stores the number as the rowid, and NULL in the number's column
abbrev pub stored : Numbered → Row
stored found = Int found.number ∷ Null ∷ Words found.linked.it.saved ∷ Bytes found.linked.it.results ∷ Bytes found.linked.link ∷ []

-- the row as `SELECT number, saved, results, link` shows it
abbrev pub shown : Numbered → Row
shown found = Int found.number ∷ Words found.linked.it.saved ∷ Bytes found.linked.it.results ∷ Bytes found.linked.link ∷ []

-- numbered one after the other
abbrev pub stored_from : ℕ → List Linked → List Row
stored_from number all = map stored (numbered_from number all)

abbrev pub shown_from : ℕ → List Linked → List Row
shown_from number all = map shown (numbered_from number all)

-- THE TABLE'S ROWS ARE THESE CHECKPOINTS and no others, numbered from 1 on, each with its link, in any order
abbrev pub AreIn : Trees → List CheckpointBytes → Type 0
AreIn trees all = IsPermutation (stored_from 1 (chained all)) (trees 0)

-- the rows aren't numbered so, for any links
abbrev pub HasGap : Trees → Type 0
HasGap trees = (all : List Linked) → ¬ IsPermutation (stored_from 1 all) (trees 0)

-- THE ROW WITH THIS NUMBER, OR ONE BEFORE IT, WAS CHANGED: those before it are chained, and its link isn't the right one
pub record IsAltered (number : ℕ) (trees : Trees) : Type 0 where
  pub front : List CheckpointBytes
  pub one : Linked
  pub later : List Row
  pub number_is : number ≡ suc (length front)
  pub other : one.link ≢ link_of (last_link front) number one.it
  pub rows : IsPermutation (stored_from 1 (chained front ++ one ∷ []) ++ later) (trees 0)

-- one of them has this number
abbrev pub HasNumber : List CheckpointBytes → ℕ → Type 0
HasNumber all number = (1 ≤ number) × (number ≤ length all)

-- The row is longer than SQLite allows. The limit is a billion bytes, counting 18 for each of the five values and 32 for the link.
abbrev pub IsTooLong : CheckpointBytes → Type 0
IsTooLong it = 10 ^ 9 < 122 + length it.saved + length it.results

-- a database of checkpoints, which has these
pub record HoldsList (db : Database) (all : List CheckpointBytes) : Type 0 where
  pub schema : db.schema ≡ checkpoint_schema
  pub rows : AreIn db.trees all

-- the same, or nothing is defined yet and there is no checkpoint
abbrev pub ShowsList : Database → List CheckpointBytes → Type 0
ShowsList db all = HoldsList db all ⊎ ((db.schema ≡ no_schema) × (all ≡ []))

-- what a file holds: it lists this one table, obeys its rules, and has these checkpoints
pub record StandsFor (db : Trees) (all : List CheckpointBytes) : Type 0 where
  pub sound : IsSound checkpoint_schema db
  pub rows : AreIn db all

-- the same, or no table yet, and no checkpoint
abbrev pub Has : Trees → List CheckpointBytes → Type 0
Has db all = StandsFor db all ⊎ (IsSound no_schema db × (all ≡ []))
