-- Ranges of records.
use Rattle.std.specs.Prelude.{◌≤◌}
use Rattle.jb_base.specs.declared.range.Range.{Range}
use Rattle.jb_base.specs.Limits.{max_records}

-- a range of records that there may be
pub record IsNumbered (r : Range) : Type 0 where
  pub lo : r.lo ≤ max_records
  pub hi : r.hi ≤ max_records
