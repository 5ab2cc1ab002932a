use Rattle.std.proofs.Common.{◌≡◌, ◌+◌, length}
use Rattle.jb_rows.specs.Fields.{fields_in}
use Rattle.jb_rows.proofs.row.count_fields.Given as goal

-- the fields so far, and those in the bytes behind them, are all
abbrev pub invariant-fields : goal.invariant-fields
invariant-fields l = length (fields_in l.fn.bytes) ≡ l.count + length (fields_in l.behind)

abbrev pub decreases-fields : goal.decreases-fields
decreases-fields l = length l.behind
