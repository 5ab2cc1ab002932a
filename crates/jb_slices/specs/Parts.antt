-- A job on many machines: each does the slices of its part.
use Rattle.std.specs.Prelude.{ℕ, ◌≡◌, ◌+◌, ◌*◌}
use Rattle.jb_slices.specs.Folder.{Folder}

-- PART `part` OF `of`, the first one being 0, has the slices part, part + of, part + 2 * of, ..
abbrev pub IsInPart : (part of number : ℕ) → Type 0
IsInPart part of number = (round : ℕ) × (number ≡ part + round * of)

-- A COLLECT: each slice's list comes from the folder in which the slice ran. All parts may share one folder.
abbrev pub collected : (folders : ℕ → Folder) → (folder_of : (number : ℕ) → ℕ) → Folder
collected folders folder_of k = folders (folder_of k) k
