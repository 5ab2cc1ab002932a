use Rattle.jb_step_tests.proofs.workers.parts.+parts_left.Given as goal

abbrev pub decreases-parts_left : goal.decreases-parts_left
decreases-parts_left g l = l.most
