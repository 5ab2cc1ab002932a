use Rattle.std.proofs.Common.{◌∙◌, ap, subst}
use Rattle.std.proofs.lemmas.Result.{IfOk-weaker}
use Rattle.jb_step.specs.preparing.Setup.{Setup}
use Rattle.jb_records.specs.PartitionResults.{AreAtTheirEnds}
use Rattle.jb_records.proofs.Beginning.{behind-stands, goes-by, whole-before}
use Rattle.jb_records.proofs.Calling.{can-begin}
use Rattle.jb_records.proofs.records_run.RecordsRun.resume.Goals as goal

pub from_prepared-requires-clause-can : goal.from_prepared-requires-clause-can
from_prepared-requires-clause-can g c κs within = can-begin _ _ _ _ _ _ c.in_ok-job.ensures.begun

pub returns-clause-by : goal.returns-clause-by
returns-clause-by g c = IfOk-weaker c.from_prepared.result _ _ (λ run kept. goes-by _ _ _ _ _ _ _ kept c.in_ok-job.ensures.begun.prepared.rules c.in_ok-job.ensures.begun.prepared.item_count) c.from_prepared.ensures.kept

pub returns-clause-behind : goal.returns-clause-behind
returns-clause-behind g c =
    IfOk-weaker c.from_prepared.result _ _ (λ run kept.
    let rows = ap (λ (s : Setup). s.rows) kept.setup_is ∙ c.in_ok-job.ensures.rows in
    record {
      held = c.in_ok-held.held;
      read = c.in_ok-held.ensures;
      step_is = kept.step_is;
      rows = rows;
      partition_results_are = kept.partition_results_are ∙ c.in_ok-job.ensures.results;
      numbered = c.in_ok-job.ensures.numbered;
      whole = λ whole. whole-before c.in_ok-held.held.rows (subst AreAtTheirEnds rows whole);
    }) c.from_prepared.ensures.kept

pub returns-clause-stands : goal.returns-clause-stands
returns-clause-stands g c =
    IfOk-weaker c.from_prepared.result _ _ (λ run kept held read so follow. behind-stands _ c.args.records.now _ c.args.saved.now c.in_ok-held.held held _ _ c.args.results.items _ c.args.step.now.rules kept c.in_ok-job.ensures.begun.setup c.in_ok-job.ensures.rows
    c.in_ok-job.ensures.begun.prepared.rules c.in_ok-job.ensures.results c.in_ok-held.ensures read so follow) c.from_prepared.ensures.kept
