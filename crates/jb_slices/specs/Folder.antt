-- A JOB'S CHECKPOINTS: a folder has a list for each slice.
use Rattle.std.specs.Prelude.{ℕ, zero, suc, ◌≡◌, ◌≤◌, ◌<◌, ◌⊎◌, true, List, [], ◌++◌, length, MatchOption, ⊤}
use Rattle.jb_slices.specs.Checkpoint.{Checkpoint}
use Rattle.jb_slices.specs.Function.{Fault}
use Rattle.jb_slices.specs.Job.{HasSlice, IsLastSlice, Job, Limits, slice_at}
use Rattle.jb_slices.specs.Slice.{Functions, IsSliceFailed, IsSliceSoFar, IsSliceWhole, slice_state, results_in, skips_in, stamp_of}

-- what a folder holds: each slice's checkpoints, by the slice's number; the list is empty before the slice begins
abbrev pub Folder : Type 0
Folder = (number : ℕ) → List Checkpoint

-- ---- so far

-- SO FAR: each slice's list is so far, and a slice that the items don't have has an empty list
pub record IsJobSoFar (job : Job) (functions : Functions) (items : List (List ℕ)) (folder : Folder) : Type 0 where
  pub each : (k : ℕ) → IsSliceSoFar job functions k (slice_at job items k) (folder k)
  pub none : (k : ℕ) → (HasSlice job items k → ⊥) → folder k ≡ []

-- the results of the first slices, and the faults that they skipped
abbrev pub results_before : Folder → (count : ℕ) → List (List ℕ)
results_before folder zero = []
results_before folder (suc k) = results_before folder k ++ results_in (folder k)

abbrev pub skips_before : Folder → (count : ℕ) → List Fault
skips_before folder zero = []
skips_before folder (suc k) = skips_before folder k ++ skips_in (folder k)

-- the first `count` slices are whole
abbrev pub AreWholeBefore : Job → Functions → Limits → (items : List (List ℕ)) → Folder → (count : ℕ) → Type 0
AreWholeBefore job functions limits items folder count = (k : ℕ) → k < count → IsSliceWhole job functions limits k (slice_at job items k) (folder k)

-- those of the first `count` slices that have a header have this stamp
abbrev pub HaveStamp : (stamp : List ℕ) → Folder → (count : ℕ) → Type 0
HaveStamp stamp folder count = (k : ℕ) → k < count → (slice_state (folder k)).begun ≡ true → stamp_of (folder k) ≡ stamp

-- the job's skip limit allows this many skips
abbrev pub AreFew : Limits → List Fault → Type 0
AreFew limits skips = MatchOption limits.job_skips ⊤ (λ limit. length skips ≤ limit)

-- ---- ended

-- A WHOLE JOB: each slice up to the last one is whole, and their skips are within the job's limit
pub record IsJobWhole (job : Job) (functions : Functions) (limits : Limits) (items : List (List ℕ)) (folder : Folder) : Type 0 where
  pub last : ℕ
  pub is_last : IsLastSlice job items last
  pub whole : AreWholeBefore job functions limits items folder (suc last)
  pub few : AreFew limits (skips_before folder (suc last))

-- a slice failed
pub record HasFailedSlice (job : Job) (functions : Functions) (limits : Limits) (items : List (List ℕ)) (folder : Folder) : Type 0 where
  pub number : ℕ
  pub failed : IsSliceFailed job functions limits number (slice_at job items number) (folder number)

-- at some seam, the slices before it had more skips than the job's limit
pub record HasTooManySkips (job : Job) (functions : Functions) (limits : Limits) (items : List (List ℕ)) (folder : Folder) : Type 0 where
  pub seam : ℕ
  pub whole : AreWholeBefore job functions limits items folder seam
  pub many : AreFew limits (skips_before folder seam) → ⊥

-- A FAILED JOB: a slice failed, or there are too many skips
abbrev pub IsJobFailed : Job → Functions → Limits → (items : List (List ℕ)) → Folder → Type 0
IsJobFailed job functions limits items folder = HasFailedSlice job functions limits items folder ⊎ HasTooManySkips job functions limits items folder

-- AN ENDED JOB: each slice up to the last one is whole or has failed
pub record IsJobEnded (job : Job) (functions : Functions) (limits : Limits) (items : List (List ℕ)) (folder : Folder) : Type 0 where
  pub last : ℕ
  pub is_last : IsLastSlice job items last
  pub ended : (k : ℕ) → k ≤ last
      → IsSliceWhole job functions limits k (slice_at job items k) (folder k) ⊎ IsSliceFailed job functions limits k (slice_at job items k) (folder k)
