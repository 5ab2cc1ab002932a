use Rattle.std.proofs.Common.{◌≡◌, ◌≢◌, IfSome}
use Rattle.jb_job.specs.declared.error.JobError.{JobError}
use Rattle.jb_plan.specs.declared.fault.PlanError.{PlanError}
use Rattle.jb_saved.specs.declared.place.SavedPlace.{SavedPlace}
use Rattle.jb_program.specs.declared.streams.error.ProgramError.TheVariants as failure
use Rattle.jb_documents.specs.RunDocument.{IsRefusedDocument}
use Rattle.jb_program.specs.Refusals.{Explains, RunningJob}
use Rattle.jb_program.specs.RunWord.{IsRefusedPlan}
use Rattle.jb_program.proofs.Refusals.{handed-on, run-fails}
use Rattle.jb_program.proofs.words.run.run.Goals as goal

pub returns-in_err-status-clause-refused : goal.returns-in_err-status-clause-refused
returns-in_err-status-clause-refused g c =
    let input = g.R.Read.remaining c.args.reader.now in
    handed-on c.from_residual-in_err-status.result c.in_err-status.field-0.0 (λ e. (fault : JobError) → e ≡ failure.Document fault → IfSome input (IsRefusedDocument fault)) c.from_residual-in_err-status.ensures.1
    (run-fails c.args.round_limit input c.in_ok-bytes.bytes.items c.in_ok-document.document c.in_err-status.field-0.0 c.in_ok-bytes.ensures.bytes c.in_ok-document.ensures.document c.in_err-status.ensures.why).refused

pub returns-in_err-status-clause-unplanned : goal.returns-in_err-status-clause-unplanned
returns-in_err-status-clause-unplanned g c =
    let input = g.R.Read.remaining c.args.reader.now in
    handed-on c.from_residual-in_err-status.result c.in_err-status.field-0.0 (λ e. (fault : PlanError) → e ≡ failure.Plan fault → IfSome input (IsRefusedPlan c.args.round_limit fault)) c.from_residual-in_err-status.ensures.1
    (run-fails c.args.round_limit input c.in_ok-bytes.bytes.items c.in_ok-document.document c.in_err-status.field-0.0 c.in_ok-bytes.ensures.bytes c.in_ok-document.ensures.document c.in_err-status.ensures.why).unplanned

pub returns-in_err-status-clause-unsaved : goal.returns-in_err-status-clause-unsaved
returns-in_err-status-clause-unsaved g c =
    let input = g.R.Read.remaining c.args.reader.now in
    handed-on c.from_residual-in_err-status.result c.in_err-status.field-0.0 (λ e. (place : SavedPlace) → e ≢ failure.Saved place) c.from_residual-in_err-status.ensures.1
    (run-fails c.args.round_limit input c.in_ok-bytes.bytes.items c.in_ok-document.document c.in_err-status.field-0.0 c.in_ok-bytes.ensures.bytes c.in_ok-document.ensures.document c.in_err-status.ensures.why).unsaved

pub returns-in_err-status-clause-failures : goal.returns-in_err-status-clause-failures
returns-in_err-status-clause-failures g c =
    let input = g.R.Read.remaining c.args.reader.now in
    handed-on c.from_residual-in_err-status.result c.in_err-status.field-0.0 (Explains RunningJob) c.from_residual-in_err-status.ensures.1
    (run-fails c.args.round_limit input c.in_ok-bytes.bytes.items c.in_ok-document.document c.in_err-status.field-0.0 c.in_ok-bytes.ensures.bytes c.in_ok-document.ensures.document c.in_err-status.ensures.why).failures
