use Rattle.jb_saved.proofs.Unfit.{FitBelow}
use Rattle.jb_saved.proofs.rows.first_unfit.Given as goal

abbrev pub invariant-loop-i : goal.invariant-loop-i
invariant-loop-i l = FitBelow l.rows l.i
