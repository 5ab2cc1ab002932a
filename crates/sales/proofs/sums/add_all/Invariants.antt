use Rattle.std.proofs.Common.{map, take}
use Rattle.jb_rows.specs.Fields.{fields_in}
use Rattle.sales.specs.Totals.{HaveAdded}
use Rattle.sales.proofs.sums.add_all.Given as goal

-- the results so far were added
abbrev pub invariant-loop-place : goal.invariant-loop-place
invariant-loop-place l = HaveAdded l.fn.totals l.totals (take l.place (map fields_in l.results))
