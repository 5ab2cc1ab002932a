use Rattle.std.proofs.Common.{◌≡◌, map}
use Rattle.sales.specs.Totals.{record_of}
use Rattle.sales.proofs.amounts.Amounts.rows.Given as goal

-- the records of the amounts so far
abbrev pub invariant-loop-name : goal.invariant-loop-name
invariant-loop-name l = l.rows ≡ map (λ entry. record_of (entry.0.now.items, entry.1.now)) l.yielded
