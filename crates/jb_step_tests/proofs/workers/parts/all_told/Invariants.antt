use Rattle.jb_step_tests.proofs.workers.parts.all_told.Given as goal

abbrev pub ghosts-run_told : goal.ghosts-run_told
ghosts-run_told g a = record { name = a.blank.name; parts = a.blank.parts }
