-- The numbers with which a repository may be opened.
use Rattle.std.specs.Prelude.{ℕ, ◌≤◌}
use Rattle.jb_base.specs.Limits.{max_item_count, max_partitions, max_threads}

pub record IsSized (partitions threads item_count : ℕ) : Type 0 where
  pub some_rows : 1 ≤ partitions
  pub few_rows : partitions ≤ max_partitions
  pub some_threads : 1 ≤ threads
  pub few_threads : threads ≤ max_threads
  pub some_items : 1 ≤ item_count
  pub few_items : item_count ≤ max_item_count
