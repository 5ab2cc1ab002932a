use Rattle.jb_slices.proofs.Passing.{failed, whole}
use Rattle.jb_slices.proofs.slice_laws.slices_follow_the_rules.Goals as goal

pub returns : goal.returns
returns c = record { whole = whole; failed = failed }
