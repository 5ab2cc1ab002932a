use Rattle.jb_records.proofs.Breaking.{broke-off}
use Rattle.jb_records.proofs.Causes.{handed-on}
use Rattle.jb_records.proofs.Ending.{ended-so}
use Rattle.jb_records.proofs.records_run.RecordsRun.run_last.Goals as goal

pub returns-in_err-end-clause-why : goal.returns-in_err-end-clause-why
returns-in_err-end-clause-why g c =
    let e = c.in_err-end.field-0.0 in
    handed-on c.from_residual.result e _ c.from_residual.ensures.1 (broke-off _ e c.in_err-end.ensures.why c.requires.fit)

pub returns-clause-ended : goal.returns-clause-ended
returns-clause-ended g c f items id setup partition_results kept own =
    ended-so f items id c.args.rounds setup partition_results _ c.args.self.results.items _ _ _ _ kept own c.in_ok-end.ensures.ran c.in_ok-end.ensures.status c.put_back.ensures
