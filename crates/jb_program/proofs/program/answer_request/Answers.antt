use Rattle.std.proofs.Common.{◌⊎◌, IfSome, sym, subst}
use Rattle.std.specs.Io.KnownBytes.{Keeps}
use Rattle.jb_program.specs.Answer.{IsRefusedBy, IsPerformedFront}
use Rattle.jb_program.specs.Failures.{HasNoAnswer}
use Rattle.jb_program.proofs.Refusals.{refused_by_run, refused_by_restart, refused_by_plan, refused_by_check}
use Rattle.jb_program.proofs.Failed.{as_run_failure, err-four, err-six, has_no_answer}
use Rattle.jb_program.proofs.program.answer_request.Goals as goal

pub returns-in-Run-clause-failed : goal.returns-in-Run-clause-failed
returns-in-Run-clause-failed g c =
    let input = g.R.Read.remaining c.args.reader.now in
    let old = g.W.Write.contents c.args.writer.now in
    let new = g.W.Write.contents c.run.new.writer in
    let line = c.in-Perform.line in
    err-six c.run.result (λ e document plan unsaved fails silent cut. subst (λ request. HasNoAnswer request input old new e) (sym c.in-Perform.is) (has_no_answer line input old new e
    (λ code. subst (λ word. IfSome input (IsRefusedBy word line.rounds e)) (sym c.in-Run.is) (refused_by_run line.rounds input e document plan unsaved fails code))
    fails silent (subst (λ word. Keeps old new ⊎ IsPerformedFront word line.rounds input old new) (sym c.in-Run.is) cut)))
    c.run.ensures.refused c.run.ensures.unplanned c.run.ensures.unsaved c.run.ensures.failures c.run.ensures.silent c.run.ensures.cut

pub returns-in-Restart-clause-failed : goal.returns-in-Restart-clause-failed
returns-in-Restart-clause-failed g c =
    let input = g.R.Read.remaining c.args.reader.now in
    let old = g.W.Write.contents c.args.writer.now in
    let new = g.W.Write.contents c.restart.new.writer in
    let line = c.in-Perform.line in
    err-six c.restart.result (λ e document plan unsaved fails silent cut. subst (λ request. HasNoAnswer request input old new e) (sym c.in-Perform.is) (has_no_answer line input old new e
    (λ code. subst (λ word. IfSome input (IsRefusedBy word line.rounds e)) (sym c.in-Restart.is) (refused_by_restart line.rounds input e document plan unsaved fails code))
    fails silent (subst (λ word. Keeps old new ⊎ IsPerformedFront word line.rounds input old new) (sym c.in-Restart.is) cut)))
    c.restart.ensures.refused c.restart.ensures.unplanned c.restart.ensures.unsaved c.restart.ensures.failures c.restart.ensures.silent c.restart.ensures.cut

pub returns-in-Plan-clause-failed : goal.returns-in-Plan-clause-failed
returns-in-Plan-clause-failed g c =
    let input = g.R.Read.remaining c.args.reader.now in
    let old = g.W.Write.contents c.args.writer.now in
    let new = g.W.Write.contents c.run_plan.new.writer in
    let line = c.in-Perform.line in
    err-four c.run_plan.result (λ e document fails silent cut. subst (λ request. HasNoAnswer request input old new e) (sym c.in-Perform.is) (has_no_answer line input old new e
    (λ code. subst (λ word. IfSome input (IsRefusedBy word line.rounds e)) (sym c.in-Plan.is) (refused_by_plan line.rounds input e document fails code))
    (as_run_failure e fails) silent (subst (λ word. Keeps old new ⊎ IsPerformedFront word line.rounds input old new) (sym c.in-Plan.is) cut)))
    c.run_plan.ensures.refused c.run_plan.ensures.failures c.run_plan.ensures.silent c.run_plan.ensures.cut

pub returns-in-Check-clause-failed : goal.returns-in-Check-clause-failed
returns-in-Check-clause-failed g c =
    let input = g.R.Read.remaining c.args.reader.now in
    let old = g.W.Write.contents c.args.writer.now in
    let new = g.W.Write.contents c.run_check.new.writer in
    let line = c.in-Perform.line in
    err-four c.run_check.result (λ e document fails silent cut. subst (λ request. HasNoAnswer request input old new e) (sym c.in-Perform.is) (has_no_answer line input old new e
    (λ code. subst (λ word. IfSome input (IsRefusedBy word line.rounds e)) (sym c.in-Check.is) (refused_by_check line.rounds input e document fails code))
    (as_run_failure e fails) silent (subst (λ word. Keeps old new ⊎ IsPerformedFront word line.rounds input old new) (sym c.in-Check.is) cut)))
    c.run_check.ensures.refused c.run_check.ensures.failures c.run_check.ensures.silent c.run_check.ensures.cut
