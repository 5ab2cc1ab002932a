-- What a repository may be opened with.
use Rattle.std.specs.Prelude.{◌≡◌, ℕ, ◌≤◌, false, List, [], length, map, slice_get, Some}
use Rattle.jb_plan.specs.Ranges.{AreDisjoint}
use Rattle.jb_base.specs.Limits.{max_item_count, max_partitions, max_threads}
use Rattle.jb_rules.specs.declared.row.Row.{Row}
use Rattle.jb_rules.specs.Rows.{range_of}
use Rattle.jb_rules.specs.Sound.{IsSoundRow}
use Rattle.jb_rules.specs.States.{is_running}
use Rattle.jb_repo.specs.Table.{Journal, Accepted}

-- each row is sound, and no partition is running
abbrev pub AreIdle : List Row → Type 0
AreIdle rows = (i : ℕ) (r : Row) → slice_get rows i ≡ Some r → IsSoundRow r × (is_running r.state ≡ false)

-- 1 to 1,024 idle rows, none with a record of another, 1 to 64 threads, and an item count of 1 to 1,000,000
pub record IsOpenable (j : Journal) : Type 0 where
  pub some_rows : 1 ≤ length j.opening
  pub few_rows : length j.opening ≤ max_partitions
  pub idle : AreIdle j.opening
  pub disjoint : AreDisjoint (map range_of j.opening)
  pub some_threads : 1 ≤ j.threads
  pub few_threads : j.threads ≤ max_threads
  pub some_items : 1 ≤ j.item_count
  pub few_items : j.item_count ≤ max_item_count

-- a journal with no event yet, and no room asked for any
abbrev pub opened_journal : List Row → ℕ → ℕ → Journal
opened_journal rows threads item_count = record { opening = rows; threads = threads; item_count = item_count; past = []; room = 0 }

-- the journal of a repository: what it may be opened with, and an accepted history
pub record IsReplayable (j : Journal) : Type 0 where
  pub ready : IsOpenable j
  pub accepted : Accepted j
