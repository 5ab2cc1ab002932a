use Rattle.jb_records.proofs.Beginning.{whole-test}
use Rattle.jb_records.proofs.records_run.RecordsRun.is_whole.Goals as goal

pub returns : goal.returns
returns g c = whole-test _ _ _ c.needs.ensures c.is_empty.ensures
