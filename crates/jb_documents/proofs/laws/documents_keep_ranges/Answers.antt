use Rattle.jb_documents.proofs.DocumentRanges.{documents-keep, loads-keep, claims-keep}
use Rattle.jb_documents.proofs.RestartRanges.{restarts-keep}
use Rattle.jb_documents.proofs.laws.documents_keep_ranges.Goals as goal

pub returns-clause-run : goal.returns-clause-run
returns-clause-run c = documents-keep c.jobs_keep_ranges.ensures

pub returns-clause-plan : goal.returns-clause-plan
returns-clause-plan c = loads-keep

pub returns-clause-check : goal.returns-clause-check
returns-clause-check c = claims-keep

pub returns-clause-restart : goal.returns-clause-restart
returns-clause-restart c = restarts-keep c.jobs_keep_ranges.ensures
