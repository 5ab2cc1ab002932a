use Rattle.std.proofs.Common.{◌≡◌, ◌-◌, arith}
use Rattle.jb_records.proofs.Skipping.{skips-all, skips-on}
use Rattle.jb_records.proofs.skips.push_skips.Goals as goal

pub loop-index-preserved : goal.loop-index-preserved
loop-index-preserved g c =
    skips-on (g.F.StepFunction.function c.args.function.now) c.args.records.now c.args.lo c.loop-index.index _ _ _ c.loop-index.invariant c.in_ok-push_skip.ensures

pub returns : goal.returns
returns g c =
    let end = c.loop-index.auto.index-end in
    let past = c.loop-index-test.false in
    let count = c.saturating_sub-count.ensures in
    let all : c.loop-index.index ≡ c.args.hi - c.args.lo = omega (arith, end, past, count) in
    skips-all (g.F.StepFunction.function c.args.function.now) c.args.records.now c.args.lo c.args.hi c.loop-index.index _ _ all c.loop-index.invariant
