-- Which slice is the last one.
use Rattle.std.proofs.Common.{◌≡◌, ℕ, suc, ◌/◌, ◌<◌, ◌≤◌, List, length, arith, length-drop}
use Rattle.std.{proofs.Math.Nat.mod-add-div', proofs.lemmas.List.length-take}
use Rattle.jb_slices.specs.Job.{HasSlice, IsLastSlice, Job, slice_at}

pub next_has : (job : Job) (all : List (List ℕ)) (number : ℕ) → HasSlice job all number → job.slice_length ≤ length (slice_at job all number) → HasSlice job all (suc number)
next_has job all number has full = grind (arith, length-take, length-drop)

pub last-is : (items slice_length : ℕ) → 0 < slice_length → (job : Job) (all : List (List ℕ)) → job.slice_length ≡ slice_length → length all ≡ items
    → IsLastSlice job all (items / slice_length)
last-is items n some job all size count = grind (arith, mod-add-div', length-take, length-drop)
