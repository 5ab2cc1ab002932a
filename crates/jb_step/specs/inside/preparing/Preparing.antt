-- What the fields of prepared rows mean.
use Rattle.std.specs.Prelude.{◌≡◌, ℕ, ◌≤◌, ◌⊎◌, List, length, map, slice_get, Some}
use Rattle.jb_base.specs.Limits.{max_partitions}
use Rattle.jb_plan.specs.Ranges.{AreDisjoint}
use Rattle.jb_repo.specs.Openable.{AreIdle}
use Rattle.jb_rules.specs.Rows.{range_of}
use Rattle.jb_rules.specs.declared.row.Row.{Row}
use Rattle.jb_rules.specs.declared.row.RowState.TheVariants.{Waiting, Finished}
use Rattle.jb_step.specs.declared.preparing.prepared.Prepared.TheInside.{Inside}
use Rattle.jb_step.specs.preparing.Setup.{Setup, IsSetup, needs}

abbrev pub prepared_setup : Inside → Setup
prepared_setup a = record { rows = a.rows.items; rules = a.rules; item_count = a.item_count; threads = a.threads; is_fresh = a.is_fresh }

-- a step may begin with them, and the unfinished partitions are listed
pub record IsPrepared (a : Inside) : Type 0 where
  pub setup : IsSetup (prepared_setup a)
  pub needed : a.needs.items ≡ needs a.rows.items

-- 1 to 1,024 rows with which a step may begin: sound ones of disjoint ranges, each of which waits or is finished
pub record MayOpen (rows : List Row) : Type 0 where
  pub some_rows : 1 ≤ length rows
  pub few_rows : length rows ≤ max_partitions
  pub idle : AreIdle rows
  pub disjoint : AreDisjoint (map range_of rows)
  pub begun : (p : ℕ) (row : Row) → slice_get rows p ≡ Some row → (row.state ≡ Waiting) ⊎ (row.state ≡ Finished)
