use Rattle.std.proofs.Common.{ℕ, ◌<◌, [], slice_index_or}
use Rattle.jb_rows.specs.Even.{HasWidthOf}
use Rattle.jb_rows.proofs.rows.Rows.first_uneven.Given as goal

-- the records so far have as many fields as the first
abbrev pub invariant-loop-index : goal.invariant-loop-index
invariant-loop-index l = (k : ℕ) → k < l.index → HasWidthOf l.self (slice_index_or l.self k [])
