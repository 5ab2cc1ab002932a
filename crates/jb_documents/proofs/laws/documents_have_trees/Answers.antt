use Rattle.jb_documents.proofs.DocumentTrees.{document-back, load-back, claim-back}
use Rattle.jb_documents.proofs.RestartTrees.{restart-back}
use Rattle.jb_documents.proofs.laws.documents_have_trees.Goals as goal

pub returns-clause-run : goal.returns-clause-run
returns-clause-run c = document-back c.jobs_have_trees.ensures

pub returns-clause-plan : goal.returns-clause-plan
returns-clause-plan c = load-back

pub returns-clause-check : goal.returns-clause-check
returns-clause-check c = claim-back

pub returns-clause-restart : goal.returns-clause-restart
returns-clause-restart c = restart-back c.jobs_have_trees.ensures c.answers_are_computed.ensures.tree
