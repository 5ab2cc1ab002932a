-- Saved rows: what a saved text holds, and what each saved value keeps.
use Rattle.std.specs.Prelude.{ℕ, ◌≤◌, List, length, map}
use Rattle.jb_base.specs.Name.{IsName}
use Rattle.jb_base.specs.Limits.{max_partitions}
use Rattle.jb_plan.specs.Ranges.{AreDisjoint}
use Rattle.jb_rules.specs.declared.row.Row.{Row}
use Rattle.jb_rules.specs.Rows.{range_of}
use Rattle.jb_repo.specs.Openable.{AreIdle}

-- a step's id, and the rows of its partitions by place
pub record SavedRows : Type 0 where
  pub step : List ℕ
  pub rows : List Row

-- the name of a step, and 1 to 1,024 sound rows, none of them running, no two of which have a record in common
pub record IsSaved (s : SavedRows) : Type 0 where
  pub named : IsName s.step
  pub some_rows : 1 ≤ length s.rows
  pub few_rows : length s.rows ≤ max_partitions
  pub idle : AreIdle s.rows
  pub disjoint : AreDisjoint (map range_of s.rows)
