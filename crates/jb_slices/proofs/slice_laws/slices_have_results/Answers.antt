use Rattle.jb_slices.proofs.Having.{results, skips}
use Rattle.jb_slices.proofs.slice_laws.slices_have_results.Goals as goal

pub returns : goal.returns
returns c = record { all = results; skips = skips }
