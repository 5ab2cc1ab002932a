-- THE CHAIN OF DIGESTS: it shows what a disk changed silently.
use Rattle.std.specs.Prelude.{ℕ, suc, List, [], ◌∷◌, ◌++◌, length, replicate}
use Rattle.std.specs.Int.{w64, to_le_bytes}
use Rattle.sha2.specs.Sha256.{sha256}
use Rattle.jb_slice_file.specs.CheckpointBytes.{CheckpointBytes}

-- before the first checkpoint there are 32 zeros
abbrev pub no_link : List ℕ
no_link = replicate 32 0

-- what a link digests: the link before it, the checkpoint's number, the length of its text, its text and its results
abbrev pub linked : (before : List ℕ) → (number : ℕ) → CheckpointBytes → List ℕ
linked before number it = before ++ (to_le_bytes w64 number ++ (to_le_bytes w64 (length it.saved) ++ (it.saved ++ it.results)))

-- A LINK: SHA-256 (FIPS 180-4) of that
unfoldable pub link_of : (before : List ℕ) → (number : ℕ) → CheckpointBytes → List ℕ
link_of before number it = sha256 (linked before number it)

-- a checkpoint with its link
pub record Linked : Type 0 where
  pub it : CheckpointBytes
  pub link : List ℕ

-- THE CHAIN: each checkpoint with the link that it must have, from this number on and after this link
abbrev pub chained_from : (before : List ℕ) → (number : ℕ) → List CheckpointBytes → List Linked
chained_from before number [] = []
chained_from before number (it ∷ more) = record { it = it; link = link_of before number it } ∷ chained_from (link_of before number it) (suc number) more

-- the chain of a list, whose first checkpoint has number 1
abbrev pub chained : List CheckpointBytes → List Linked
chained all = chained_from no_link 1 all

-- the last link
abbrev pub last_from : (before : List ℕ) → (number : ℕ) → List CheckpointBytes → List ℕ
last_from before number [] = before
last_from before number (it ∷ more) = last_from (link_of before number it) (suc number) more

abbrev pub last_link : List CheckpointBytes → List ℕ
last_link all = last_from no_link 1 all
