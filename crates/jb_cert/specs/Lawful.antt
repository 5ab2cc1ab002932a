-- Valid plans and shortest ones, over any lists of finite sets of chunks: the facts of McNaughton's schedules of 1959, in
-- whole chunks and rounds. The definitions call a valid plan lawful. No lane is named here, and a set may be empty.
use Rattle.std.specs.Prelude.{◌≡◌, ◌≢◌, ℕ, ◌+◌, ◌<◌, ◌≤◌, List, [], length, slice_index, slice_index_or, All, AllPairs, Contains}

-- a chunk, by its partition and its number there, both counted from 0
abbrev pub Pair : Type 0
Pair = ℕ × ℕ

-- the chunk is in set r of the list
abbrev pub StandsIn : List (List Pair) → ℕ → Pair → Type 0
StandsIn sets r pair = (r < length sets) × Contains (slice_index_or sets r []) pair

-- no two chunks of the set are of one partition, so no chunk comes twice either
abbrev pub HasOnePerPartition : List Pair → Type 0
HasOnePerPartition pairs = AllPairs (λ a b. a.0 ≢ b.0) pairs

pub record IsLawful (counts : List ℕ) (threads : ℕ) (sets : List (List Pair)) : Type 0 where
  -- there is such a partition, and it has such a chunk
  pub known : (r p j : ℕ) → StandsIn sets r (p, j) → (p < length counts) × (j < slice_index counts p)
  -- a set has at most as many chunks as there are threads, and at most one of each partition
  pub small : All (λ pairs. length pairs ≤ threads) sets
  pub apart : All HasOnePerPartition sets
  -- each chunk is in a set, and in one only
  pub somewhere : (p j : ℕ) → p < length counts → j < slice_index counts p → (r : ℕ) × StandsIn sets r (p, j)
  pub once : (r s p j : ℕ) → StandsIn sets r (p, j) → StandsIn sets s (p, j) → r ≡ s
  -- a chunk is in an earlier set than the next one of its partition
  pub in_order : (r s p j : ℕ) → StandsIn sets r (p, j) → StandsIn sets s (p, j + 1) → r < s

-- no valid plan has fewer than n sets
abbrev pub NoneIsShorter : List ℕ → ℕ → ℕ → Type 0
NoneIsShorter counts threads n = (sets : List (List Pair)) → IsLawful counts threads sets → n ≤ length sets

-- a valid plan, and no valid one is shorter
pub record IsLeast (counts : List ℕ) (threads : ℕ) (sets : List (List Pair)) : Type 0 where
  pub lawful : IsLawful counts threads sets
  pub least : NoneIsShorter counts threads (length sets)

-- n is the number of sets of a shortest valid plan
abbrev pub IsLeastNumber : List ℕ → ℕ → ℕ → Type 0
IsLeastNumber counts threads n = (sets : List (List Pair)) × IsLeast counts threads sets × (length sets ≡ n)
