use Rattle.std.proofs.Common.{◌≡◌, ◌+◌}
use Rattle.jb_records.specs.{Function.{steady}, Skips.{skips_between}}
use Rattle.jb_slice_run.specs.{Held.{faults_in}, Rows.{faults_at}}
use Rattle.jb_slice_run.proofs.faults.faults_between.Given as goal

-- those of the items so far
abbrev pub invariant-loop-index : goal.invariant-loop-index
invariant-loop-index g l = faults_in l.faults.items ≡ faults_at l.first (skips_between (steady (g.F.RowFunction.answer l.function)) l.items l.lo (l.lo + l.index))
