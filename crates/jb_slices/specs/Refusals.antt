-- WHY A SLICE'S LIST IS REFUSED, by its header.
use Rattle.std.specs.Prelude.{ℕ, ◌≢◌, List, ◌∷◌, Contains}
use Rattle.jb_slices.specs.Checkpoint.{Begins, Checkpoint, Header, digest_of}
use Rattle.jb_slices.specs.Job.{HaveInCommon, IdentityPart, Job}
use Rattle.jb_slices.specs.Slice.{Functions, IsSliceSoFar}

-- the header is of another job, which differs in this part
abbrev pub IsOtherJob : Job → IdentityPart → Header → Type 0
IsOtherJob job part header = HaveInCommon part job header.job → ⊥

-- of another slice
abbrev pub IsOtherSlice : (number : ℕ) → Header → Type 0
IsOtherSlice number header = header.number ≢ number

-- of other items
abbrev pub HasOtherItems : (items : List (List ℕ)) → Header → Type 0
HasOtherItems items header = header.digest ≢ digest_of items

-- of a stamp that is neither the call's nor one of those that the call accepts
abbrev pub HasOtherStamp : (stamp : List ℕ) → (kept : List (List ℕ)) → Header → Type 0
HasOtherStamp stamp kept header = Contains (stamp ∷ kept) header.stamp → ⊥

-- THE LAW: a slice so far of this job, with this number and these items, is refused for none of the first three reasons
abbrev pub OwnSlicesArentRefused : Type 0
OwnSlicesArentRefused =
    (job : Job) (functions : Functions) (number : ℕ) (items : List (List ℕ)) (header : Header) (cs : List Checkpoint) (part : IdentityPart)
    → IsSliceSoFar job functions number items (Begins header ∷ cs)
    → (IsOtherJob job part header → ⊥) × (IsOtherSlice number header → ⊥) × (HasOtherItems items header → ⊥)
