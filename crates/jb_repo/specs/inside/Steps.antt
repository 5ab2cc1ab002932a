-- When a row can take an event's step, and the table of rows after it.
use Rattle.std.specs.Prelude.{◌≡◌, ℕ, ◌+◌, ◌<◌, ◌≤◌, true, List, Option, Some, None, slice_set, slice_index_or}
use Rattle.jb_rules.specs.declared.row.Row.{Row}
use Rattle.jb_base.specs.Limits.{max_rollbacks, max_in_place}
use Rattle.jb_rules.specs.Sound.{IsSoundRow}
use Rattle.jb_repo.specs.declared.events.Event.{Event}
use Rattle.jb_repo.specs.Deltas.{counts_in}
use Rattle.jb_repo.specs.declared.events.Event.TheVariants.{Commit, Roll, Fail, Drop}
use Rattle.jb_repo.specs.Rows.{repeats_in}
use Rattle.jb_repo.specs.Table.{is_commit_of}
use Rattle.jb_repo.specs.Laws.{next_row}

-- the event ends a chunk
abbrev pub IsOutcome : Event → Type 0
IsOutcome (Commit lane delta written again) = Unit {0}
IsOutcome (Roll lane class again) = Unit {0}
IsOutcome (Fail lane class again) = Unit {0}
IsOutcome (Drop lane) = Unit {0}
IsOutcome _ = ⊥

-- if the event is a Commit, it is one of the row's next block
abbrev pub IsCommit : ℕ → Row → Event → Type 0
IsCommit item_count row (Commit lane delta written again) = is_commit_of item_count row (counts_in delta) written ≡ true
IsCommit item_count row _ = Unit {0}

-- the row is sound and has a next block, and if the event is an outcome the row isn't at its limit of rollbacks, nor
-- beyond that of repeats
pub record CanStep (item_count : ℕ) (row : Row) (e : Event) : Type 0 where
  pub sound : IsSoundRow row
  pub unfinished : row.at < row.hi
  pub below_limit : IsOutcome e → row.counts.rollback < max_rollbacks
  pub few_repeats : row.in_place + repeats_in e ≤ max_in_place
  pub commit : IsCommit item_count row e

-- the rows after an event that is about one partition, or about none; d is any row
abbrev pub stepped_rows : ℕ → List Row → Option ℕ → Event → Row → List Row
stepped_rows item_count rows None e d = rows
stepped_rows item_count rows (Some p) e d = slice_set rows p (next_row item_count (slice_index_or rows p d) e)
