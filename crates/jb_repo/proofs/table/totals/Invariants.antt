use Rattle.std.proofs.Common.{◌≡◌, drop}
use Rattle.jb_rules.specs.Counts.{plus_counts}
use Rattle.jb_repo.specs.Rows.{total_counts}
use Rattle.jb_repo.proofs.table.totals.Given as goal

abbrev pub invariant-loop-row : goal.invariant-loop-row
invariant-loop-row l = plus_counts l.totals (total_counts (drop l.row-index l.rows)) ≡ total_counts l.rows
