use Rattle.jb_process.proofs.Recorded.{failure_by_status}
use Rattle.jb_process.proofs.perform.perform_recorded.Goals as goal

pub returns-clause-failed : goal.returns-clause-failed
returns-clause-failed g c =
    failure_by_status c.answer-answer.result c.status_of.result c.status_of.ensures.answered c.answer-answer.ensures.status c.answer-answer.ensures.failed c.status_of.ensures.failed
