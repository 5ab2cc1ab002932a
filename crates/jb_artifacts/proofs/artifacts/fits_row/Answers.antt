use Rattle.std.proofs.Common.{rules}
use Rattle.jb_artifacts.proofs.artifacts.fits_row.Goals as goal

pub returns-then-row-end : goal.returns-then-row-end
returns-then-row-end c = search rules
