-- What comes of parts.
use Rattle.std.specs.Prelude.{ℕ, ◌≡◌, ◌<◌, List}
use Rattle.jb_slices.specs.Folder.{Folder, IsJobSoFar}
use Rattle.jb_slices.specs.Job.{Job}
use Rattle.jb_slices.specs.Parts.{IsInPart, collected}
use Rattle.jb_slices.specs.Slice.{Functions}

-- THE LAW: no slice is in two parts
abbrev pub PartsAreApart : Type 0
PartsAreApart = (part other of number : ℕ) → part < of → other < of → IsInPart part of number → IsInPart other of number → part ≡ other

-- THE LAW: each slice is in a part
abbrev pub EachIsInAPart : Type 0
EachIsInAPart = (of number : ℕ) → 0 < of → (part : ℕ) × (part < of) × IsInPart part of number

-- THE LAW: a collect from the folders of one job is that job so far, so the laws of jobs hold for it
abbrev pub CollectsAreJobs : Type 0
CollectsAreJobs =
    (job : Job) (functions : Functions) (items : List (List ℕ)) (folders : ℕ → Folder) (folder_of : ℕ → ℕ)
    → ((n : ℕ) → IsJobSoFar job functions items (folders n)) → IsJobSoFar job functions items (collected folders folder_of)
