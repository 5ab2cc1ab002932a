use Rattle.std.proofs.Common.{◌∙◌, false, sym}
use Rattle.std.proofs.lemmas.Result.{IfOk-weaker}
use Rattle.jb_records.proofs.Steps.{completed-whole}
use Rattle.jb_records.proofs.records_run.RecordsRun.run_interval.Goals as goal

pub returns-clause-whole : goal.returns-clause-whole
returns-clause-whole g c = IfOk-weaker c.run_interval_over.result _ _ (λ r is completed. completed-whole _ false (sym is ∙ completed)) c.run_interval_over.ensures.status
