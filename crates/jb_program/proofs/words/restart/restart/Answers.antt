use Rattle.std.proofs.Common.{◌≡◌, IfSome}
use Rattle.jb_job.specs.declared.error.JobError.{JobError}
use Rattle.jb_plan.specs.declared.fault.PlanError.{PlanError}
use Rattle.jb_saved.specs.declared.place.SavedPlace.{SavedPlace}
use Rattle.jb_program.specs.declared.streams.error.ProgramError.TheVariants as failure
use Rattle.jb_documents.specs.RestartDocument.{IsRefusedRestart}
use Rattle.jb_documents.specs.declared.restart.fault.RestartFault.TheVariants as restart_fault
use Rattle.jb_program.specs.Refusals.{Explains, RunningJob}
use Rattle.jb_program.specs.RestartWord.{IsRefusedRestartStep, IsRefusedSaved}
use Rattle.jb_program.specs.Statuses.{restart_failure}
use Rattle.jb_program.proofs.Held.{read-held}
use Rattle.jb_program.proofs.Refusals.{handed-on, restart-fails, unread}
use Rattle.jb_program.proofs.words.restart.restart.Goals as goal

pub restart_job-requires-clause-held : goal.restart_job-requires-clause-held
restart_job-requires-clause-held g c κs within = read-held c.in_ok-bytes.bytes.items c.in_ok-document.document c.in_ok-document.ensures.document

pub returns-in_err-document-clause-refused : goal.returns-in_err-document-clause-refused
returns-in_err-document-clause-refused g c =
    let input = g.R.Read.remaining c.args.reader.now in
    handed-on c.from_residual-in_err-document.result (restart_failure c.in_err-document.field-0.0) (λ e. (fault : JobError) → e ≡ failure.Document fault → IfSome input (IsRefusedRestart (restart_fault.Document fault))) c.from_residual-in_err-document.ensures.1
    (unread c.args.round_limit input c.in_ok-bytes.bytes.items c.in_err-document.field-0.0 c.in_ok-bytes.ensures.bytes c.in_err-document.ensures.refused).refused

pub returns-in_err-document-clause-unplanned : goal.returns-in_err-document-clause-unplanned
returns-in_err-document-clause-unplanned g c =
    let input = g.R.Read.remaining c.args.reader.now in
    handed-on c.from_residual-in_err-document.result (restart_failure c.in_err-document.field-0.0) (λ e. (fault : PlanError) → e ≡ failure.Plan fault → IfSome input (IsRefusedRestartStep c.args.round_limit (failure.Plan fault))) c.from_residual-in_err-document.ensures.1
    (unread c.args.round_limit input c.in_ok-bytes.bytes.items c.in_err-document.field-0.0 c.in_ok-bytes.ensures.bytes c.in_err-document.ensures.refused).unplanned

pub returns-in_err-document-clause-unsaved : goal.returns-in_err-document-clause-unsaved
returns-in_err-document-clause-unsaved g c =
    let input = g.R.Read.remaining c.args.reader.now in
    handed-on c.from_residual-in_err-document.result (restart_failure c.in_err-document.field-0.0) (λ e. (place : SavedPlace) → e ≡ failure.Saved place → IfSome input (IsRefusedSaved c.args.round_limit place)) c.from_residual-in_err-document.ensures.1
    (unread c.args.round_limit input c.in_ok-bytes.bytes.items c.in_err-document.field-0.0 c.in_ok-bytes.ensures.bytes c.in_err-document.ensures.refused).unsaved

pub returns-in_err-document-clause-failures : goal.returns-in_err-document-clause-failures
returns-in_err-document-clause-failures g c =
    let input = g.R.Read.remaining c.args.reader.now in
    handed-on c.from_residual-in_err-document.result (restart_failure c.in_err-document.field-0.0) (Explains RunningJob) c.from_residual-in_err-document.ensures.1
    (unread c.args.round_limit input c.in_ok-bytes.bytes.items c.in_err-document.field-0.0 c.in_ok-bytes.ensures.bytes c.in_err-document.ensures.refused).failures

pub returns-in_err-status-clause-refused : goal.returns-in_err-status-clause-refused
returns-in_err-status-clause-refused g c =
    let input = g.R.Read.remaining c.args.reader.now in
    handed-on c.from_residual-in_err-status.result c.in_err-status.field-0.0 (λ e. (fault : JobError) → e ≡ failure.Document fault → IfSome input (IsRefusedRestart (restart_fault.Document fault))) c.from_residual-in_err-status.ensures.1
    (restart-fails c.args.round_limit input c.in_ok-bytes.bytes.items c.in_ok-document.document c.in_err-status.field-0.0 c.in_ok-bytes.ensures.bytes c.in_ok-document.ensures.document c.in_err-status.ensures.why).refused

pub returns-in_err-status-clause-unplanned : goal.returns-in_err-status-clause-unplanned
returns-in_err-status-clause-unplanned g c =
    let input = g.R.Read.remaining c.args.reader.now in
    handed-on c.from_residual-in_err-status.result c.in_err-status.field-0.0 (λ e. (fault : PlanError) → e ≡ failure.Plan fault → IfSome input (IsRefusedRestartStep c.args.round_limit (failure.Plan fault))) c.from_residual-in_err-status.ensures.1
    (restart-fails c.args.round_limit input c.in_ok-bytes.bytes.items c.in_ok-document.document c.in_err-status.field-0.0 c.in_ok-bytes.ensures.bytes c.in_ok-document.ensures.document c.in_err-status.ensures.why).unplanned

pub returns-in_err-status-clause-unsaved : goal.returns-in_err-status-clause-unsaved
returns-in_err-status-clause-unsaved g c =
    let input = g.R.Read.remaining c.args.reader.now in
    handed-on c.from_residual-in_err-status.result c.in_err-status.field-0.0 (λ e. (place : SavedPlace) → e ≡ failure.Saved place → IfSome input (IsRefusedSaved c.args.round_limit place)) c.from_residual-in_err-status.ensures.1
    (restart-fails c.args.round_limit input c.in_ok-bytes.bytes.items c.in_ok-document.document c.in_err-status.field-0.0 c.in_ok-bytes.ensures.bytes c.in_ok-document.ensures.document c.in_err-status.ensures.why).unsaved

pub returns-in_err-status-clause-failures : goal.returns-in_err-status-clause-failures
returns-in_err-status-clause-failures g c =
    let input = g.R.Read.remaining c.args.reader.now in
    handed-on c.from_residual-in_err-status.result c.in_err-status.field-0.0 (Explains RunningJob) c.from_residual-in_err-status.ensures.1
    (restart-fails c.args.round_limit input c.in_ok-bytes.bytes.items c.in_ok-document.document c.in_err-status.field-0.0 c.in_ok-bytes.ensures.bytes c.in_ok-document.ensures.document c.in_err-status.ensures.why).failures
