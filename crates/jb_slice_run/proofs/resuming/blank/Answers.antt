use Rattle.std.proofs.Common.{[]}
use Rattle.jb_slice_file.proofs.Handed.{handed_on}
use Rattle.jb_slice_run.{specs.Held.{header_in}, proofs.Resumed.{at-blank}}
use Rattle.jb_slice_run.proofs.resuming.blank.Goals as goal

pub returns-clause-place : goal.returns-clause-place
returns-clause-place g c = at-blank (header_in c.args.own.now) c.in_ok-first.first c.requires.own c.in_ok-first.ensures.kept c.in_ok-place.ensures.place

pub returns-in_err-place-clause-why : goal.returns-in_err-place-clause-why
returns-in_err-place-clause-why g c = handed_on _ _ _ c.from_residual-in_err-place.ensures.1 (c.in_err-place.ensures.why c.args.number [])
