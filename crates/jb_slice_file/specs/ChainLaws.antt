-- What a chain of digests shows.
use Rattle.std.specs.Prelude.{ℕ, suc, ◌≡◌, ◌<◌, ◌^◌, List, [], ◌∷◌, ◌++◌, length, ⊤}
use Rattle.std.specs.List.{AllByRecursion}
use Rattle.sha2.specs.Sha256.{sha256}
use Rattle.jb_slice_file.specs.CheckpointBytes.{CheckpointBytes}
use Rattle.jb_slice_file.specs.Chain.{Linked, chained, last_link, link_of, linked, no_link}

-- SHA-256 TELLS TWO TEXTS APART: they have the same digest only if they are equal. There are texts with one digest; nobody knows two.
abbrev pub TellsApart : (a b : List ℕ) → Type 0
TellsApart a b = sha256 a ≡ sha256 b → a ≡ b

-- SHA-256 distinguishes, place by place, what the links of two chains digest
abbrev pub TellsChainsApart : (before other : List ℕ) → (number : ℕ) → List CheckpointBytes → List CheckpointBytes → Type 0
TellsChainsApart before other number [] [] = ⊤
TellsChainsApart before other number [] (y ∷ ys) = ⊤
TellsChainsApart before other number (x ∷ xs) [] = ⊤
TellsChainsApart before other number (x ∷ xs) (y ∷ ys) =
    TellsApart (linked before number x) (linked other number y) × TellsChainsApart (link_of before number x) (link_of other number y) (suc number) xs ys

-- each text has a length that fits in eight bytes
abbrev pub AreShort : List CheckpointBytes → Type 0
AreShort all = AllByRecursion (λ (it : CheckpointBytes). length it.saved < 2 ^ 64) all

-- THE LAW: two lists with the same length and the same last link are equal, as far as SHA-256 distinguishes their texts. So any change that a
-- disk made to a file of this many checkpoints is seen. The exception: the last link is changed too, to that of what is there now.
abbrev pub LastLinksIdentifyLists : Type 0
LastLinksIdentifyLists =
    (all others : List CheckpointBytes) → AreShort all → AreShort others → TellsChainsApart no_link no_link 1 all others
    → length all ≡ length others → last_link all ≡ last_link others → all ≡ others

-- THE LAW: a missing end isn't seen, as in a file restored from an older copy: a front of a chain is the chain of a front
abbrev pub FrontsAreChained : Type 0
FrontsAreChained = (all later : List CheckpointBytes) → (rest : List Linked) × (chained (all ++ later) ≡ chained all ++ rest)
