-- THE CHECKPOINTS OF ONE SLICE, as its file has them: each may follow the state to which those before it lead.
use Rattle.std.specs.Prelude.{ℕ, ◌≡◌, Bool, true, false, List, [], ◌∷◌, length, None, ⊤}
use Rattle.jb_mapper.specs.EvenCover.{even_ranges}
use Rattle.jb_slices.specs.Checkpoint.{Begins, Checkpoint, GoesOn, Header, Interval, Progress, header_of}
use Rattle.jb_slices.specs.Function.{Fault, Function}
use Rattle.jb_slices.specs.Job.{AreRaised, Job, Limits, first_of, rules_of}
use Rattle.jb_slices.specs.Partitions.{AreFinished, ArePartitionsSoFar, HasFailed, HaveEnded, grown, joined_results, joined_skips, ranges_of}

-- the function of each stamp
abbrev pub Functions : Type 0
Functions = (stamp : List ℕ) → Function

-- ---- where they lead

-- whether the slice has a header, and with which stamp; the limits of its last checkpoint; and its partitions
pub record SliceState : Type 0 where
  pub begun : Bool
  pub stamp : List ℕ
  pub limits : Limits
  pub partitions : List Progress

abbrev pub start : SliceState
start = record { begun = false; stamp = []; limits = record { skips = None; job_skips = None; retries = 0 }; partitions = [] }

abbrev pub next : SliceState → Checkpoint → SliceState
next at (Begins header) = record { begun = true; stamp = header.stamp; limits = header.limits; partitions = [] }
next at (GoesOn i) = record at { limits = i.limits; partitions = grown at.partitions i.partitions }

abbrev pub led : SliceState → List Checkpoint → SliceState
led at [] = at
led at (c ∷ cs) = led (next at c) cs

abbrev pub slice_state : List Checkpoint → SliceState
slice_state all = led start all

-- the slice's stamp, its results and its skipped faults
abbrev pub stamp_of : List Checkpoint → List ℕ
stamp_of all = (slice_state all).stamp

abbrev pub results_in : List Checkpoint → List (List ℕ)
results_in all = joined_results (slice_state all).partitions

abbrev pub skips_in : List Checkpoint → List Fault
skips_in all = joined_skips (slice_state all).partitions

-- ---- which may follow

-- the partitions of the state are so far, by the function of its stamp and by its limits
abbrev pub IsStateSoFar : Job → Functions → (number : ℕ) → (items : List (List ℕ)) → SliceState → Type 0
IsStateSoFar job functions number items at = ArePartitionsSoFar (functions at.stamp) (rules_of job at.limits) (first_of job number) 0 items at.partitions

-- the header is the first one
pub record IsBegin (job : Job) (number : ℕ) (items : List (List ℕ)) (at : SliceState) (header : Header) : Type 0 where
  pub first : at.begun ≡ false
  pub header_is : header ≡ header_of job header.limits header.stamp number items

-- an interval continues under the same limits or raised ones
pub record IsInterval (job : Job) (functions : Functions) (number : ℕ) (items : List (List ℕ)) (at : SliceState) (i : Interval) : Type 0 where
  pub begun : at.begun ≡ true
  pub raised : AreRaised at.limits i.limits
  pub ranges : ranges_of (next at (GoesOn i)).partitions ≡ even_ranges (length items) job.partitions
  pub so_far : IsStateSoFar job functions number items (next at (GoesOn i))

abbrev pub IsNext : Job → Functions → (number : ℕ) → (items : List (List ℕ)) → SliceState → Checkpoint → Type 0
IsNext job functions number items at (Begins header) = IsBegin job number items at header
IsNext job functions number items at (GoesOn i) = IsInterval job functions number items at i

abbrev pub Follow : Job → Functions → (number : ℕ) → (items : List (List ℕ)) → SliceState → List Checkpoint → Type 0
Follow job functions number items at [] = ⊤
Follow job functions number items at (c ∷ cs) = IsNext job functions number items at c × Follow job functions number items (next at c) cs

-- ---- A SLICE'S LIST

-- SO FAR: none or some checkpoints of the slice with this number and these items
abbrev pub IsSliceSoFar : Job → Functions → (number : ℕ) → (items : List (List ℕ)) → List Checkpoint → Type 0
IsSliceSoFar job functions number items all = Follow job functions number items start all

-- WHOLE: each partition has finished, under these limits or lower ones. A slice without items is whole with its header.
pub record IsSliceWhole (job : Job) (functions : Functions) (limits : Limits) (number : ℕ) (items : List (List ℕ)) (all : List Checkpoint) : Type 0 where
  pub so_far : IsSliceSoFar job functions number items all
  pub begun : (slice_state all).begun ≡ true
  pub raised : AreRaised (slice_state all).limits limits
  pub partitions : IsStateSoFar job functions number items (slice_state all)
  pub finished : AreFinished (slice_state all).partitions

-- FAILED under these limits: each partition has ended, and one has failed
pub record IsSliceFailed (job : Job) (functions : Functions) (limits : Limits) (number : ℕ) (items : List (List ℕ)) (all : List Checkpoint) : Type 0 where
  pub so_far : IsSliceSoFar job functions number items all
  pub limits_are : (slice_state all).limits ≡ limits
  pub ended : HaveEnded (slice_state all).partitions
  pub failed : HasFailed (slice_state all).partitions
