use Rattle.std.proofs.Common.{◌<◌, ◌^◌, arith, length, map}
use Rattle.jb_rows.specs.Fields.{fields_in}
use Rattle.sales.proofs.OneMore.{at-end, fewer, if-too-large, none-added, one-more, packed-row, too-large}
use Rattle.sales.proofs.sums.add_all.Goals as goal

pub loop-place-init : goal.loop-place-init
loop-place-init c = none-added c.args.totals.now

pub returns-in-Err-clause-refused : goal.returns-in-Err-clause-refused
returns-in-Err-clause-refused c =
    let test = c.loop-place-test.true in
    let count = c.len-place-end.ensures in
    let below : c.loop-place.place < length c.args.results.now = omega arith in
    if-too-large c.in-Err.error (λ above earlier before. (
      c.in-Some.customer.now,
      too-large earlier (map fields_in c.args.results.now) c.loop-place.place c.of-row.result c.loop-place.totals c.in-Some.customer.now c.in-Some.cents (fewer c.args.results.now c.loop-place.place below)
          (packed-row c.args.results.now c.loop-place.place c.at.result.now c.of-row.result below c.at.ensures c.of-row.ensures) c.in-Some.ensures (c.loop-place.invariant earlier before) (2 ^ 64) above,
    )) c.in-Err.ensures.refused

pub loop-place-preserved : goal.loop-place-preserved
loop-place-preserved c =
    let test = c.loop-place-test.true in
    let count = c.len-place-end.ensures in
    let below : c.loop-place.place < length c.args.results.now = omega arith in
    λ earlier before.
    one-more earlier (map fields_in c.args.results.now) c.loop-place.place c.of-row.result c.loop-place.totals c.in-Some.customer.now c.in-Some.cents (fewer c.args.results.now c.loop-place.place below)
    (packed-row c.args.results.now c.loop-place.place c.at.result.now c.of-row.result below c.at.ensures c.of-row.ensures) c.in-Some.ensures (c.loop-place.invariant earlier before) c.add.new.totals
    c.in-Ok.ensures.added

pub returns-clause-added : goal.returns-clause-added
returns-clause-added c =
    let test = c.loop-place-test.false in
    let count = c.len-place-end.ensures in
    at-end c.args.results.now c.loop-place.place c.args.totals.now c.loop-place.totals (omega arith) c.loop-place.invariant
