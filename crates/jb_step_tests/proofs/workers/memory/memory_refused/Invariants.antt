use Rattle.jb_step_tests.proofs.workers.memory.memory_refused.Given as goal

abbrev pub ghosts-run_short : goal.ghosts-run_short
ghosts-run_short g a = record { name = a.blank.name; parts = a.blank.parts }
