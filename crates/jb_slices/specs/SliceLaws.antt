-- What comes of a slice's checkpoints.
use Rattle.std.specs.Prelude.{ℕ, ◌≡◌, List, [], ◌∷◌, ◌++◌}
use Rattle.jb_slices.specs.Checkpoint.{Begins, Checkpoint, Header, digest_of, header_of}
use Rattle.jb_slices.specs.Function.{all_results, faults_from}
use Rattle.jb_slices.specs.Job.{Job, Limits, first_of}
use Rattle.jb_slices.specs.Passing.{SlicePasses}
use Rattle.jb_slices.specs.Slice.{Functions, IsNext, IsSliceFailed, IsSliceSoFar, IsSliceWhole, slice_state, results_in, skips_in, stamp_of}

-- THE LAW: a whole slice has the results of all its items, by the function with its stamp, each once and in order
abbrev pub WholeSlicesHaveAll : Type 0
WholeSlicesHaveAll =
    (job : Job) (functions : Functions) (limits : Limits) (number : ℕ) (items : List (List ℕ)) (all : List Checkpoint)
    → IsSliceWhole job functions limits number items all → results_in all ≡ all_results (functions (stamp_of all)) items

-- THE LAW: a whole slice skipped the faults of all its items
abbrev pub WholeSlicesHaveSkips : Type 0
WholeSlicesHaveSkips =
    (job : Job) (functions : Functions) (limits : Limits) (number : ℕ) (items : List (List ℕ)) (all : List Checkpoint)
    → IsSliceWhole job functions limits number items all → skips_in all ≡ faults_from (functions (stamp_of all)) (first_of job number) items

-- THE LAW: a slice so far with one more checkpoint that may follow is again a slice so far
abbrev pub OneMoreFollows : Type 0
OneMoreFollows =
    (job : Job) (functions : Functions) (number : ℕ) (items : List (List ℕ)) (all : List Checkpoint) (c : Checkpoint)
    → IsSliceSoFar job functions number items all → IsNext job functions number items (slice_state all) c → IsSliceSoFar job functions number items (all ++ c ∷ [])

-- THE LAW: a front of a slice so far, which is what a crash leaves, is a slice so far too
abbrev pub FrontsAreSoFar : Type 0
FrontsAreSoFar =
    (job : Job) (functions : Functions) (number : ℕ) (items : List (List ℕ)) (all more : List Checkpoint)
    → IsSliceSoFar job functions number items (all ++ more) → IsSliceSoFar job functions number items all

-- THE LAW: the first checkpoint is a header, which names the job, the number and the items
abbrev pub FirstIsHeader : Type 0
FirstIsHeader =
    (job : Job) (functions : Functions) (number : ℕ) (items : List (List ℕ)) (c : Checkpoint) (cs : List Checkpoint)
    → IsSliceSoFar job functions number items (c ∷ cs) → (header : Header) × (c ≡ Begins header) × (header ≡ header_of job header.limits header.stamp number items)

-- THE LAW: two slices with the same header have the same job, number and digest
abbrev pub HeadersIdentifySlices : Type 0
HeadersIdentifySlices =
    (job other : Job) (functions others : Functions) (number m : ℕ) (items texts : List (List ℕ)) (c : Checkpoint) (cs ds : List Checkpoint)
    → IsSliceSoFar job functions number items (c ∷ cs) → IsSliceSoFar other others m texts (c ∷ ds)
    → (job ≡ other) × (number ≡ m) × (digest_of items ≡ digest_of texts)

-- THE LAW: in a whole slice the items of each partition pass
abbrev pub WholeSlicesPass : Type 0
WholeSlicesPass =
    (job : Job) (functions : Functions) (limits : Limits) (number : ℕ) (items : List (List ℕ)) (all : List Checkpoint)
    → IsSliceWhole job functions limits number items all → SlicePasses job limits (functions (stamp_of all)) items

-- THE LAW: in a failed slice the items of some partition don't pass
abbrev pub FailedSlicesDont : Type 0
FailedSlicesDont =
    (job : Job) (functions : Functions) (limits : Limits) (number : ℕ) (items : List (List ℕ)) (all : List Checkpoint)
    → IsSliceFailed job functions limits number items all → SlicePasses job limits (functions (stamp_of all)) items → ⊥
