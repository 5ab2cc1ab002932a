use Rattle.jb_slice_file.proofs.Handed.{handed_on}
use Rattle.jb_slice_run.proofs.Working.{nothing-left, whole-keeps}
use Rattle.jb_slice_run.proofs.resuming.resume.Goals as goal

pub returns-in_err-own-clause-cause : goal.returns-in_err-own-clause-cause
returns-in_err-own-clause-cause g c = handed_on _ _ _ c.from_residual-in_err-own.ensures.1 (c.in_err-own.ensures.why _ _)

pub returns-clause-done : goal.returns-clause-done
returns-clause-done g c functions of whole is =
    let at = c.in_ok-place.ensures.place in
    record { well = at.fresh; kept = is; whole = nothing-left (rw is at (at.stands functions of (whole-keeps whole))) whole }
