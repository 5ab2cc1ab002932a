-- The rules that the row of a partition keeps (this project's own choice, except the meaning of the counts).
use Rattle.std.specs.Prelude.{◌≡◌, ◌+◌, ◌-◌, ◌≤◌, ◌<◌, ◌↔◌}
use Rattle.jb_base.specs.Limits.{max_records, max_rollbacks, max_in_place}
use Rattle.jb_rules.specs.declared.row.Row.{Row}
use Rattle.jb_rules.specs.declared.row.RowState.TheVariants.{Finished}

-- the next record and the redo mark are in the range, or at its end
pub record IsPlaced (r : Row) : Type 0 where
  pub at_from : r.lo ≤ r.at
  pub at_to : r.at ≤ r.hi
  pub redo_from : r.lo ≤ r.redo
  pub redo_to : r.redo ≤ r.hi
  pub records : r.hi ≤ max_records

-- The counts account for the records up to the checkpoint: each was read or its read skipped. Each item read had its
-- process call skipped, was filtered, was written, or was dropped by a skipped write call. Each commit passed a record.
-- Each retry repeated a call in place, or rolled a chunk back.
pub record IsCounted (r : Row) : Type 0 where
  pub passed : r.counts.read + r.counts.read_skip ≡ r.at - r.lo
  pub written : r.counts.write ≡ r.written
  pub settled : r.counts.write + r.counts.process_skip + r.counts.filter ≤ r.counts.read
  pub exact : r.counts.write_skip ≡ 0 → r.counts.write + r.counts.process_skip + r.counts.filter ≡ r.counts.read
  pub write_skips : r.counts.write_skip ≤ r.counts.commit
  pub commits : r.counts.commit ≤ r.at - r.lo
  pub committed : r.lo < r.at → 1 ≤ r.counts.commit
  pub repeated : r.in_place ≤ r.retries
  pub retried : r.retries ≤ r.counts.rollback + r.in_place
  pub rolled : r.counts.rollback ≤ max_rollbacks
  pub few_repeats : r.in_place ≤ max_in_place

-- the row rules
pub record IsSoundRow (r : Row) : Type 0 where
  pub placed : IsPlaced r
  pub counted : IsCounted r
  pub finished : (r.state ≡ Finished) ↔ (r.at ≡ r.hi)
