use Rattle.std.proofs.Common.{◌+◌, rules}
use Rattle.jb_records.specs.inside.Attempts.{IsPassed}
use Rattle.jb_records.proofs.Reaching.{reached-on}
use Rattle.jb_records.proofs.failures.skips_before.Goals as goal

pub loop-index-preserved : goal.loop-index-preserved
loop-index-preserved g c =
    let f = g.F.StepFunction.function c.args.function.now in
    let row = c.args.row.now in
    let passed : IsPassed f c.args.rules.now c.args.records.now row (row.at + c.loop-index.index) c.loop-index.skips c.in-Some.past = search rules in
    reached-on f c.args.rules.now c.args.records.now row c.loop-index.index _ _ c.loop-index.invariant passed
