-- The places at which partitions begin, laid end to end.
use Rattle.std.specs.Prelude.{ℕ, ◌+◌, ◌-◌, ◌<◌, ◌≤◌, List, [], ◌∷◌, length, slice_index}

-- where each partition begins, and finally where the last one ends
abbrev pub starts_from : ℕ → List ℕ → List ℕ
starts_from start [] = start ∷ []
starts_from start (n ∷ ns) = start ∷ starts_from (start + n) ns

-- the counts between the places of a list, where first is the place before them
abbrev pub counts_after : ℕ → List ℕ → List ℕ
counts_after first [] = []
counts_after first (x ∷ xs) = (x - first) ∷ counts_after x xs

abbrev pub counts_between : List ℕ → List ℕ
counts_between [] = []
counts_between (x ∷ xs) = counts_after x xs

-- the place lies in partition p, between its start and its end
pub record LiesBetween (starts : List ℕ) (place p : ℕ) : Type 0 where
  pub known : p + 1 < length starts
  pub from : slice_index starts p ≤ place
  pub until : place < slice_index starts (p + 1)
