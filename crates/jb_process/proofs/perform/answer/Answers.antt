use Rattle.jb_process.proofs.Recorded.{no_document, result_answered, result_unanswered}
use Rattle.jb_process.proofs.perform.answer.Goals as goal

pub returns-in_err-document-clause-failed : goal.returns-in_err-document-clause-failed
returns-in_err-document-clause-failed g c =
    no_document c.args.reader.now c.document_of.new.reader _ c.from_residual-in_err-document.result c.in_ok-request.request _ c.in_err-document.field-0.0 c.from_residual-in_err-document.ensures.1 c.in_ok-request.ensures.asked c.in_err-document.ensures.why

pub returns-clause-answered : goal.returns-clause-answered
returns-clause-answered g c =
    result_answered c.args.reader.now c.document_of.new.reader _ c.answer_request.result c.in_ok-request.request c.in_ok-document.document _ _ c.in_ok-request.ensures.asked c.in_ok-document.ensures.read c.answer_request.ensures.answered

pub returns-clause-failed : goal.returns-clause-failed
returns-clause-failed g c =
    result_unanswered c.args.reader.now c.document_of.new.reader _ c.answer_request.result c.in_ok-request.request c.in_ok-document.document _ _ c.in_ok-request.ensures.asked c.in_ok-document.ensures.read c.answer_request.ensures.failed
