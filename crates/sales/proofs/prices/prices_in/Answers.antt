use Rattle.std.proofs.Common.{rules, ◌<◌, arith, length}
use Rattle.sales.proofs.ListOfPrices.{no-prices, one-price}
use Rattle.sales.proofs.prices.prices_in.Goals as goal

pub loop-number-init : goal.loop-number-init
loop-number-init c = rw c.new-prices.ensures no-prices

pub loop-number-preserved : goal.loop-number-preserved
loop-number-preserved c =
    let test = c.loop-number-test.true in
    let count = c.len-number-end.ensures in
    let below : c.loop-number.number < length c.args.rows.now = omega arith in
    one-price c.args.rows.now c.loop-number.number c.row-row.result c.loop-number.prices c.put.new.self c.in-Some.item.now c.in-Some.cents below c.row-row.ensures c.in-Some.ensures
    (search rules) c.in_ok-put.ensures c.loop-number.invariant
