-- What follows from the form.
use Rattle.std.specs.Prelude.{ℕ, ◌≡◌, List, [], ◌∷◌, ◌++◌}
use Rattle.jb_slice_file.specs.CheckpointBytes.{CheckpointBytes}
use Rattle.jb_slices.specs.Checkpoint.{Begins, Checkpoint, Header, header_of}
use Rattle.jb_slices.specs.Job.{Job, Limits}
use Rattle.jb_slices.specs.Slice.{Functions, IsNext, IsSliceSoFar, slice_state}
use Rattle.jb_slice_run.specs.Held.{AreIntervalsOf}
use Rattle.jb_slice_run.specs.Refusals.{IsHeaderCause}
use Rattle.jb_slice_run.specs.declared.error.SliceError.{SliceError}
use Rattle.jb_slice_run.specs.declared.error.SliceError.TheVariants.{OtherStamp}
use Rattle.jb_slice_run.specs.SliceBytes.{AreStoredAs, IsHeaderStored, IsStoredAs, KeepsSlice}

-- THE LAW: bytes store one checkpoint at most
abbrev pub EachIsStoredAsOne : Type 0
EachIsStoredAsOne = (c d : Checkpoint) (kept : CheckpointBytes) → IsStoredAs c kept → IsStoredAs d kept → c ≡ d

-- THE LAW: bytes store one list of checkpoints at most
abbrev pub StoredAsOne : Type 0
StoredAsOne = (cs ds : List Checkpoint) (all : List CheckpointBytes) → AreStoredAs cs all → AreStoredAs ds all → cs ≡ ds

-- THE LAW: if bytes store a slice, a front of them does too
abbrev pub FrontsAreStored : Type 0
FrontsAreStored =
    (job : Job) (functions : Functions) (number : ℕ) (items : List (List ℕ)) (all more : List CheckpointBytes)
    → KeepsSlice job functions number items (all ++ more) → KeepsSlice job functions number items all

-- THE LAW: bytes that store a slice, with one more checkpoint that may follow, store a slice
abbrev pub OneMoreIsStored : Type 0
OneMoreIsStored =
    (job : Job) (functions : Functions) (number : ℕ) (items : List (List ℕ)) (all : List CheckpointBytes) (c : Checkpoint) (next : CheckpointBytes) (keeps : KeepsSlice job functions number items all)
    → IsNext job functions number items (slice_state keeps.checkpoints) c → IsStoredAs c next → KeepsSlice job functions number items (all ++ next ∷ [])

-- the first of these bytes store a header of the slice, and the later ones store intervals of its partitions
pub record BeginsWithHeader (job : Job) (functions : Functions) (number : ℕ) (items : List (List ℕ)) (first : CheckpointBytes) (later : List CheckpointBytes) : Type 0 where
  pub header : Header
  pub intervals : List Checkpoint
  pub header_kept : IsHeaderStored header first
  pub header_is : header ≡ header_of job header.limits header.stamp number items
  pub intervals_kept : AreStoredAs intervals later
  pub are_intervals : AreIntervalsOf job.partitions intervals
  pub so_far : IsSliceSoFar job functions number items (Begins header ∷ intervals)

-- THE LAW: the bytes of each slice begin with a header
abbrev pub SlicesBeginWithHeaders : Type 0
SlicesBeginWithHeaders =
    (job : Job) (functions : Functions) (number : ℕ) (items : List (List ℕ)) (first : CheckpointBytes) (later : List CheckpointBytes)
    → KeepsSlice job functions number items (first ∷ later) → BeginsWithHeader job functions number items first later

-- THE LAW: the header of a slice of this job, with this number and these items, can be refused only for its stamp
abbrev pub OwnSlicesResume : Type 0
OwnSlicesResume =
    (job : Job) (functions : Functions) (number : ℕ) (items : List (List ℕ)) (first : CheckpointBytes) (later : List CheckpointBytes) (limits : Limits) (stamp : List ℕ) (stamps : List (List ℕ)) (e : SliceError)
    → (begins : BeginsWithHeader job functions number items first later) → IsHeaderCause (header_of job limits stamp number items) stamps begins.header e → e ≡ OtherStamp
