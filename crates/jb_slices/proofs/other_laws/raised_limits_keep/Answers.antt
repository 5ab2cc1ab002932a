use Rattle.jb_slices.proofs.Raising.{pass, pass_all, whole}
use Rattle.jb_slices.proofs.other_laws.raised_limits_keep.Goals as goal

pub returns : goal.returns
returns c = record { each = pass; all = pass_all; whole = whole }
