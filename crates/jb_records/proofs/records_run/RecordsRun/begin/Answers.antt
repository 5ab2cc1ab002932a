use Rattle.std.proofs.Common.{refl}
use Rattle.std.specs.Arc.{arc_value}
use Rattle.std.proofs.lemmas.Result.{IfOk-weaker}
use Rattle.jb_records.proofs.Beginning.{goes-by, kept-ranges, kept-stands}
use Rattle.jb_records.proofs.Calling.{can-begin}
use Rattle.jb_records.proofs.records_run.RecordsRun.begin.Goals as goal

pub from_prepared-requires-clause-can : goal.from_prepared-requires-clause-can
from_prepared-requires-clause-can g c κs within = can-begin _ _ _ _ _ _ c.in_ok-job.ensures.begun

pub returns-clause-stands : goal.returns-clause-stands
returns-clause-stands g c =
    let f = g.F.StepFunction.function (arc_value c.args.function.now) in
    let new = c.in_ok-job.ensures.new refl f in
    IfOk-weaker c.from_prepared.result _ _ (λ run kept. kept-stands f c.args.records.now _ _ _ _ kept c.in_ok-job.ensures.begun.setup new.so_far (λ _. new.follows)) c.from_prepared.ensures.kept

pub returns-clause-ranges : goal.returns-clause-ranges
returns-clause-ranges g c =
    let f = g.F.StepFunction.function (arc_value c.args.function.now) in
    IfOk-weaker c.from_prepared.result _ _ (λ run kept. kept-ranges f c.args.records.now _ _ _ _ _ kept (c.in_ok-job.ensures.new refl f).ranges) c.from_prepared.ensures.kept

pub returns-clause-by : goal.returns-clause-by
returns-clause-by g c = IfOk-weaker c.from_prepared.result _ _ (λ run kept. goes-by _ _ _ _ _ _ _ kept c.in_ok-job.ensures.begun.prepared.rules c.in_ok-job.ensures.begun.prepared.item_count) c.from_prepared.ensures.kept
