use Rattle.jb_step_tests.proofs.step.watched.watched.Given as goal

abbrev pub ghosts-run_watched : goal.ghosts-run_watched
ghosts-run_watched g a = record { name = a.blank.name; parts = a.blank.parts }
