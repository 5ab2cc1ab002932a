use Rattle.jb_step_tests.proofs.workers.starting.memory_refused.Given as goal

abbrev pub ghosts-start_short : goal.ghosts-start_short
ghosts-start_short g a = record { name = a.blank.name; parts = a.blank.parts }
