-- A load: the count of chunks of each partition, and a number of threads.
use Rattle.std.specs.Prelude.{ℕ, ◌≤◌, max, List, [], ◌∷◌, length, sum}
use Rattle.std.specs.Int.{div_ceil}
use Rattle.jb_base.specs.Limits.{max_load_partitions, max_chunks, max_threads}

pub record Load : Type 0 where
  pub counts : List ℕ
  pub threads : ℕ

-- the limits that every call with a load requires (own choice)
pub record IsWithinLimits (counts : List ℕ) (threads : ℕ) : Type 0 where
  pub few_counts : length counts ≤ max_load_partitions
  pub few_chunks : sum counts ≤ max_chunks
  pub some_thread : 1 ≤ threads
  pub few_threads : threads ≤ max_threads

-- the largest count, 0 if there is no count
abbrev pub longest_count : List ℕ → ℕ
longest_count [] = 0
longest_count (n ∷ ns) = max n (longest_count ns)

-- McNaughton's bound of 1959, in whole rounds. It is the larger of two numbers: the chunks of the longest partition, and
-- the rounds that all chunks take when they are dealt evenly to the threads.
abbrev pub mcnaughton : List ℕ → ℕ → ℕ
mcnaughton counts threads = max (longest_count counts) (div_ceil (sum counts) threads)
