-- Checkpoints as they are found: each with a number and a link.
use Rattle.std.specs.Prelude.{ℕ, suc, ℤ, pos, ◌≡◌, ◌≢◌, List, [], ◌∷◌, ◌++◌, length}
use Rattle.jb_slice_file.specs.declared.numbered.Found.{Found}
use Rattle.jb_slice_file.specs.CheckpointBytes.{CheckpointBytes, checkpoint_bytes}
use Rattle.jb_slice_file.specs.Chain.{Linked, chained, last_link, link_of}

-- one with its link, under a number
pub record Numbered : Type 0 where
  pub number : ℤ
  pub linked : Linked

abbrev pub numbered : Found → Numbered
numbered found = record { number = found.number; linked = record { it = checkpoint_bytes found.checkpoint; link = found.link.items } }

abbrev pub at_number : ℕ → Linked → Numbered
at_number number one = record { number = pos number; linked = one }

-- numbered one after the other, from a number on
abbrev pub numbered_from : ℕ → List Linked → List Numbered
numbered_from number [] = []
numbered_from number (one ∷ more) = at_number number one ∷ numbered_from (suc number) more

-- THE CHECKPOINT WITH THIS NUMBER, OR ONE BEFORE IT, WAS CHANGED: those before it are chained, and its link isn't the right one
pub record IsAlteredAt (number : ℕ) (found : List Numbered) : Type 0 where
  pub front : List CheckpointBytes
  pub one : Linked
  pub later : List Numbered
  pub number_is : number ≡ suc (length front)
  pub other : one.link ≢ link_of (last_link front) number one.it
  pub found_are : found ≡ numbered_from 1 (chained front ++ one ∷ []) ++ later
