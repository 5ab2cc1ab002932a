-- What an artifact that notes its faults has noted (own choice).
use Rattle.std.specs.Prelude.{ℕ, ◌≡◌, ◌+◌, ◌-◌, ◌^◌, ◌++◌, ◌∷◌, ◌⊎◌, [], List, Result, Ok, Err, min}
use Rattle.jb_base.specs.declared.artifact_error.ArtifactError.{ArtifactError}
use Rattle.jb_base.specs.declared.artifact_error.ArtifactError.TheVariants.{Fault, Memory}
use Rattle.jb_ready.specs.declared.notes.Note.{Note}

-- the notes that were stored, the first one first, and the number of those that were lost because memory ran out
pub record NotesRecord : Type 0 where
  pub kept : List Note
  pub lost : ℕ

-- one more note is lost (the count stops at the largest number of 64 bits)
abbrev pub HasLost : (old new : NotesRecord) → Type 0
HasLost old new = new ≡ record old { lost = min (old.lost + 1) (2 ^ 64 - 1) }

-- this note is appended to the others, or it is lost
abbrev pub HasNoted : Note → (old new : NotesRecord) → Type 0
HasNoted note old new = (new ≡ record old { kept = old.kept ++ note ∷ [] }) ⊎ HasLost old new

-- THE NOTES AFTER A READ OR A PROCESS CALL for the record of this number: each fault is noted, with the number and its class
abbrev pub NotesCall : {A : Type 0} → Result A ArtifactError → (number : ℕ) → (old new : NotesRecord) → Type 0
NotesCall (Ok answer) number old new = new ≡ old
NotesCall (Err (Fault class)) number old new = HasNoted (record { number = number; class = class }) old new
NotesCall (Err Memory) number old new = new ≡ old
