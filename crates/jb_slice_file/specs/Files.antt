-- What the two files of a database hold, and what a crash may leave of them.
use Rattle.std.specs.Prelude.{◌≡◌, ◌⊎◌, ℕ, Bool, false, true, List, []}
use Rattle.sqlite_disk.specs.declared.Disk.{Ghosts}
use Rattle.sqlite_disk.specs.declared.Files.{Files}
use Rattle.sqlite_trees.specs.Tree.{Trees}
use Rattle.sqlite.specs.Schema.{Schema}
use Rattle.sqlite_catalog.specs.Listing.{IsSound}
use Rattle.sqlite_wal.specs.Files.{outcomes}
use Rattle.sqlite_wal.specs.PageSize.{IsPageSize}
use Rattle.sqlite_wal.specs.Recovery as log
use Rattle.sqlite_wal.specs.Recovery.{AreWhole, Image, Pages}
use Rattle.sqlite_pool.specs.Stored.{stored_size, trimmed}
use Rattle.sqlite_store.specs.FileStore.{state}
use Rattle.sqlite_store.specs.Listing.{IsOurs, file_trees}
use Rattle.sqlite_store.specs.Unopened.{state_of}
use Rattle.sqlite_store.specs.declared.catalog.Wanted.{Wanted}
use Rattle.sqlite.specs.declared.file.Leftover.{Leftover}
use Rattle.sqlite.specs.declared.file.Leftover.TheVariants as left
use Rattle.sqlite.specs.Files.{IsNothing}
use Rattle.jb_slice_file.specs.CheckpointBytes.{CheckpointBytes}
use Rattle.jb_slice_file.specs.Rows.{Has}
use Rattle.sqlite.specs.Opening.{HoldsAt}

-- the files hold this database; if its pages have sums, each page has its own
abbrev pub HoldsWhole : Image → Trees → Type 0
HoldsWhole image db = (size : ℕ) × IsPageSize (stored_size size) × HoldsAt size image db

-- the database has the checkpoints of a run so far
abbrev pub HasRunCheckpoints : (so_far : List CheckpointBytes → Type 0) → Trees → Type 0
HasRunCheckpoints so_far db = (all : List CheckpointBytes) × Has db all × so_far all

-- THE FILES HOLD A RUN: a database with the checkpoints of a run so far
abbrev pub HoldsRun : (so_far : List CheckpointBytes → Type 0) → Image → Type 0
HoldsRun so_far image = ∥ ((db : Trees) × HoldsWhole image db × HasRunCheckpoints so_far db) ∥₁

-- or they hold no database yet, and a run begins with no checkpoint
abbrev pub HoldsRunOrNone : (so_far : List CheckpointBytes → Type 0) → Image → Type 0
HoldsRunOrNone so_far image = HoldsRun so_far image ⊎ (IsNothing image × so_far [])

-- The pages to which the files recover are a sound file that reads as these trees. Sums of pages may be missing. If `is_numbered`, each table
-- has the same number in the file as in the trees.
pub record ReadsAs (is_numbered : Bool) (size : ℕ) (image : Image) (db : Trees) : Type 0 where
  pub stored : Pages
  pub found : log.Recovers (stored_size size) image stored
  pub whole : AreWhole (stored_size size) stored
  pub wanted : List Wanted
  pub ours : IsOurs size is_numbered wanted (trimmed size stored)
  pub reads : db ≡ file_trees size wanted (trimmed size stored)

-- the same, and the trees are a database
abbrev pub HoldsPages : (is_numbered : Bool) → Image → Trees → Type 0
HoldsPages is_numbered image db = (size : ℕ) × IsPageSize (stored_size size) × ReadsAs is_numbered size image db × ((schema : Schema) × IsSound schema db)

-- a run resumes from the files: their pages are those of a run so far, or they hold no database yet and a run begins with no checkpoint
abbrev pub IsResumable : (is_numbered : Bool) (so_far : List CheckpointBytes → Type 0) → Image → Type 0
IsResumable is_numbered so_far image = ∥ (((db : Trees) × HoldsPages is_numbered image db × HasRunCheckpoints so_far db) ⊎ (IsNothing image × so_far [])) ∥₁

-- WHAT AN INTERRUPTED OPEN LEAVES: files from which a run resumes
abbrev pub CanGoOn : (so_far : List CheckpointBytes → Type 0) → Image → Type 0
CanGoOn = IsResumable true

-- the same after an interrupted open for which the kit doesn't promise that the tables have their numbers
abbrev pub MayGoOn : (so_far : List CheckpointBytes → Type 0) → Image → Type 0
MayGoOn = IsResumable false

-- this holds for whatever a crash at this moment leaves of the files
abbrev pub Leaves : {D : Type 0} → Ghosts D → (Image → Type 0) → Files D → Type 0
Leaves g Holds files = (image : Image) → outcomes g files.log files.db image → Holds image

-- the files that are left have a store over them
abbrev pub has_store : {D : Type 0} {g : Ghosts D} → Leftover D g → Bool
has_store (left.Files files) = false
has_store (left.Unopened files) = false
has_store (left.Store it) = true

-- what a crash may leave after an interrupted open
abbrev pub LeavesImage : {D : Type 0} {g : Ghosts D} → Leftover D g → Image → Type 0
LeavesImage {D} {g} (left.Files files) image = outcomes g files.log files.db image
LeavesImage (left.Unopened files) image = (state_of files).may_leave image
LeavesImage (left.Store it) image = (state it).may_leave image
