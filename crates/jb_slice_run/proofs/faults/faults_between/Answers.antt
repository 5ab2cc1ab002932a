use Rattle.std.proofs.Common.{arith}
use Rattle.jb_slice_run.proofs.Faulted.{faults-all, faults-more}
use Rattle.jb_slice_run.proofs.faults.faults_between.Goals as goal

pub loop-index-preserved : goal.loop-index-preserved
loop-index-preserved g c =
    faults-more (g.F.RowFunction.answer c.args.function.now) c.args.first c.args.items.now c.args.lo c.loop-index.index _ _
    c.loop-index.invariant c.in_ok-push_fault.ensures

pub returns : goal.returns
returns g c =
    faults-all (g.F.RowFunction.answer c.args.function.now) c.args.first c.args.items.now c.args.lo c.args.hi c.loop-index.index _
    (omega (arith, c.loop-index.auto.index-end, c.loop-index-test.false, c.saturating_sub-index-end.ensures)) c.loop-index.invariant
