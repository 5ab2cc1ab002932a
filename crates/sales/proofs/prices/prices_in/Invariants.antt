use Rattle.std.proofs.Common.{take}
use Rattle.sales.specs.Prices.{ArePrices}
use Rattle.sales.proofs.prices.prices_in.Given as goal

-- the prices of the records so far
abbrev pub invariant-loop-number : goal.invariant-loop-number
invariant-loop-number l = ArePrices (take l.number l.rows) l.prices
