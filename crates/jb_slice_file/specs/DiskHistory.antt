-- What two files are at a moment, as a process run remembers it.
use Rattle.std.specs.Prelude.{◌≡◌, ◌↔◌, ℕ, Bool, true, false, List}
use Rattle.sqlite_disk.specs.declared.Disk.{Ghosts}
use Rattle.sqlite_disk.specs.declared.Files.{Files}
use Rattle.jb_slice_file.specs.CheckpointBytes.{CheckpointBytes}

-- the log, or the database file
abbrev pub file_of : {D : Type 0} → Files D → Bool → D
file_of files true = files.log
file_of files false = files.db

-- whether it is clean, and what a crash may leave of it
abbrev pub clean_now : {D : Type 0} → Ghosts D → Files D → Bool → Bool
clean_now g files is_log = g.is_clean (file_of files is_log)

abbrev pub left_now : {D : Type 0} → Ghosts D → Files D → Bool → List ℕ → Type 0
left_now g files is_log c = g.may_leave (file_of files is_log) c

-- what the process run remembers is what these files are
pub record IsHistoryOf {D : Type 0} (g : Ghosts D) (was_clean : Bool → Bool) (could_leave : Bool → List ℕ → Type 0) (files : Files D) : Type 0 where
  pub clean : (is_log : Bool) → was_clean is_log ≡ clean_now g files is_log
  pub left : (is_log : Bool) (c : List ℕ) → could_leave is_log c ↔ left_now g files is_log c

-- both predicates, the remembered one and the meant one, accept the same lists of checkpoints as those of a run so far
abbrev pub IsSame : (before after : List CheckpointBytes → Type 0) → Type 0
IsSame before after = (all : List CheckpointBytes) → before all ↔ after all
