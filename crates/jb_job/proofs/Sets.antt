-- Sets of classes as numbers: the bits of declared classes, and what an include and an exclude list leave.
use Rattle.std.proofs.Common.{◌≡◌, ℕ, ◌-◌, ◌^◌, ◌≤◌, ◌<◌, ◌⊎◌, inl, inr, List, [], ◌∷◌, length, ap, ◌∙◌, arith}
use Rattle.std.specs.Prelude.{bit_and, bit_or, fold}
use Rattle.std.specs.List.{AllByRecursion}
use Rattle.std.specs.Int.{w64, bit_not}
use Rattle.std.proofs.lemmas.Nat.{or_lt, or_comm, and_le_l, and_mask, and_comm, le_or_l}
use Rattle.std.proofs.Math.Pow.{pow_mono}
use Rattle.jb_job.specs.JobRanges.{AreDeclared, AreOthers, IsClassSet}

-- all 64 bits
abbrev pub all : ℕ
all = 2 ^ 64 - 1

-- the bits of a list that may have `*`: declared ones, or all
abbrev pub IsIncluded : List (List ℕ) → ℕ → Type 0
IsIncluded classes set = AreDeclared classes set ⊎ (set ≡ all)

pub below-all : (classes : List (List ℕ)) (set : ℕ) → length classes ≤ 64 → AreDeclared classes set → set < 2 ^ 64
below-all classes set few lt = omega (arith, pow_mono {i = length classes} {j = 64} few)

or-all : (set : ℕ) → set < 2 ^ 64 → bit_or all set ≡ all
or-all set lt = omega (arith, or_lt 64 all set (omega arith) lt, le_or_l all set)

included-within : (classes : List (List ℕ)) (set : ℕ) → length classes ≤ 64 → IsIncluded classes set → set < 2 ^ 64
included-within classes set few (inl declared) = below-all classes set few declared
included-within classes set few (inr is) = omega (arith, is)

pub or-included : (classes : List (List ℕ)) → length classes ≤ 64 → (a b : ℕ) → IsIncluded classes a → IsIncluded classes b → IsIncluded classes (bit_or a b)
or-included classes few a b (inl x) (inl y) = inl (or_lt (length classes) a b x y)
or-included classes few a b (inl x) (inr y) = inr (ap (bit_or a) y ∙ or_comm a all ∙ or-all a (below-all classes a few x))
or-included classes few a b (inr x) y = inr (ap (λ n. bit_or n b) x ∙ or-all b (included-within classes b few y))

-- what holds of 0, and stays so with each bit
pub bits-keep : (P : ℕ → Type 0) → ((a b : ℕ) → P a → P b → P (bit_or a b)) → (a : ℕ) (bits : List ℕ) → P a → AllByRecursion P bits → P (fold bit_or a bits)
bits-keep P stay a [] start each = start
bits-keep P stay a (b ∷ bits) start each = bits-keep P stay (bit_or a b) bits (stay a b start each.0) each.1

-- what is left of all 64 bits
and-one : (set : ℕ) → set < 2 ^ 64 → bit_and all set ≡ set
and-one set lt = and_comm all set ∙ and_mask set 64 ∙ omega (arith, lt)

pub and-all : (set : ℕ) → set < 2 ^ 64 → bit_and all (bit_not w64 set) ≡ 2 ^ 64 - 1 - set
and-all set lt = and-one (2 ^ 64 - 1 - set) (omega arith)

without : (classes : List (List ℕ)) (b : ℕ) → b < 2 ^ 64 → AreDeclared classes b → AreOthers classes (2 ^ 64 - 1 - b)
without classes b lt declared = record { whole = omega arith; excluded = omega (arith, lt, declared) }

pub left : (classes : List (List ℕ)) → length classes ≤ 64 → (a b : ℕ) → IsIncluded classes a → AreDeclared classes b → IsClassSet classes (bit_and a (bit_not w64 b))
left classes few a b (inl x) y = inl (omega (arith, and_le_l a (bit_not w64 b), x))
left classes few a b (inr x) y =
    let lt = below-all classes b few y in
    inr (rw x (rw (and-all b lt) (without classes b lt y)))
