use Rattle.jb_slice_file.proofs.Handed.{handed_on}
use Rattle.jb_slice_run.{specs.Held.{limits_in}, proofs.Refusing.{lowered-first}, proofs.Resumed.{at-header}}
use Rattle.jb_slice_run.proofs.resuming.after_header.Goals as goal

pub returns-in_err-refuse_lowered-clause-why : goal.returns-in_err-refuse_lowered-clause-why
returns-in_err-refuse_lowered-clause-why g c number first own = handed_on _ _ _ c.from_residual.ensures.1 (lowered-first _ _ _ _ own _ c.in_err-refuse_lowered.ensures)

pub returns-clause-place : goal.returns-clause-place
returns-clause-place g c number first own = at-header (limits_in c.args.limits) first own c.in_ok-refuse_lowered.ensures c.in_ok-place.ensures.place

pub returns-in_err-place-clause-why : goal.returns-in_err-place-clause-why
returns-in_err-place-clause-why g c number first own = handed_on _ _ _ c.from_residual-in_err-place.ensures.1 (c.in_err-place.ensures.why _ _)
