-- What every table of rows keeps.
use Rattle.std.specs.Prelude.{◌≡◌, ℕ, ◌≤◌, List, length, map, slice_get, Some}
use Rattle.jb_plan.specs.Ranges.{AreDisjoint}
use Rattle.jb_base.specs.Limits.{max_partitions}
use Rattle.jb_rules.specs.declared.counts.Counts.{Counts}
use Rattle.jb_rules.specs.declared.row.Row.{Row}
use Rattle.jb_rules.specs.Rows.{range_of}
use Rattle.jb_rules.specs.Sound.{IsSoundRow}
use Rattle.jb_repo.specs.Rows.{total_counts}

-- 1 to 1,024 sound rows of disjoint ranges, and the sum of their counts
pub record IsTable (rows : List Row) (totals : Counts) : Type 0 where
  pub some_rows : 1 ≤ length rows
  pub few_rows : length rows ≤ max_partitions
  pub sound : (i : ℕ) (r : Row) → slice_get rows i ≡ Some r → IsSoundRow r
  pub disjoint : AreDisjoint (map range_of rows)
  pub sum : totals ≡ total_counts rows
