-- What comes of a job's checkpoints.
use Rattle.std.specs.Prelude.{ℕ, suc, ◌≡◌, ◌⊎◌, List, if◌then◌else◌, nat_eq, take}
use Rattle.jb_slices.specs.Checkpoint.{Checkpoint}
use Rattle.jb_slices.specs.Folder.{AreWholeBefore, Folder, HaveStamp, IsJobEnded, IsJobFailed, IsJobSoFar, IsJobWhole, results_before, skips_before}
use Rattle.jb_slices.specs.Function.{all_results, faults_from}
use Rattle.jb_slices.specs.Job.{HasSlice, IsLastSlice, Job, Limits, first_of, slice_at}
use Rattle.jb_slices.specs.Passing.{AllPass}
use Rattle.jb_slices.specs.Slice.{Functions, IsSliceSoFar}

-- THE LAW: the results of whole slices, written in order from the first one on, are a front of the results of all items. It doesn't matter
-- whether a slice after them has started or failed.
abbrev pub WholeSlicesAreAFront : Type 0
WholeSlicesAreAFront =
    (job : Job) (functions : Functions) (limits : Limits) (items : List (List ℕ)) (folder : Folder) (stamp : List ℕ) (count : ℕ)
    → AreWholeBefore job functions limits items folder count → HaveStamp stamp folder count
    → results_before folder count ≡ all_results (functions stamp) (take (first_of job count) items)

-- THE LAW: a whole job has the results of all items, each once and in order
abbrev pub WholeJobsHaveAll : Type 0
WholeJobsHaveAll =
    (job : Job) (functions : Functions) (limits : Limits) (items : List (List ℕ)) (folder : Folder) (stamp : List ℕ)
    → (whole : IsJobWhole job functions limits items folder) → HaveStamp stamp folder (suc whole.last)
    → results_before folder (suc whole.last) ≡ all_results (functions stamp) items

-- THE LAW: a whole job skipped the faults of all items
abbrev pub WholeJobsHaveSkips : Type 0
WholeJobsHaveSkips =
    (job : Job) (functions : Functions) (limits : Limits) (items : List (List ℕ)) (folder : Folder) (stamp : List ℕ)
    → (whole : IsJobWhole job functions limits items folder) → HaveStamp stamp folder (suc whole.last)
    → skips_before folder (suc whole.last) ≡ faults_from (functions stamp) 0 items

-- THE LAW: a job has one last slice at most
abbrev pub LastSlicesAreOne : Type 0
LastSlicesAreOne = (job : Job) (items : List (List ℕ)) (last other : ℕ) → IsLastSlice job items last → IsLastSlice job items other → last ≡ other

-- THE LAW: the items of a whole job pass the rules; so a job can't be COMPLETED if the rules say FAILED
abbrev pub WholeJobsPass : Type 0
WholeJobsPass =
    (job : Job) (functions : Functions) (limits : Limits) (items : List (List ℕ)) (folder : Folder) (stamp : List ℕ)
    → (whole : IsJobWhole job functions limits items folder) → HaveStamp stamp folder (suc whole.last) → AllPass job limits (functions stamp) items

-- THE LAW: the items of a failed job don't pass the rules
abbrev pub FailedJobsDont : Type 0
FailedJobsDont =
    (job : Job) (functions : Functions) (limits : Limits) (items : List (List ℕ)) (folder : Folder) (stamp : List ℕ)
    → IsJobFailed job functions limits items folder → ((count : ℕ) → HaveStamp stamp folder count) → AllPass job limits (functions stamp) items → ⊥

-- THE LAW: a job that has ended is whole or has failed. So, by the two laws above, it is whole exactly if its items pass. It has failed exactly
-- if they don't.
abbrev pub EndedJobsAreEither : Type 0
EndedJobsAreEither =
    (job : Job) (functions : Functions) (limits : Limits) (items : List (List ℕ)) (folder : Folder) → IsJobEnded job functions limits items folder
    → IsJobWhole job functions limits items folder ⊎ IsJobFailed job functions limits items folder

-- ---- one slice's list

-- the folder with another list for this slice
abbrev pub replaced : Folder → (number : ℕ) → List Checkpoint → Folder
replaced folder number all k = if nat_eq k number then all else folder k

-- THE LAW: a job so far stays so far if the list of one slice is replaced by another list so far. A call may continue that slice, or its file
-- may be deleted.
abbrev pub SlicesAreApart : Type 0
SlicesAreApart =
    (job : Job) (functions : Functions) (items : List (List ℕ)) (folder : Folder) (number : ℕ) (all : List Checkpoint)
    → IsJobSoFar job functions items folder → HasSlice job items number → IsSliceSoFar job functions number (slice_at job items number) all
    → IsJobSoFar job functions items (replaced folder number all)
