use Rattle.jb_step_tests.proofs.workers.most.a_round_on_64_lanes.Given as goal

abbrev pub ghosts-run : goal.ghosts-run
ghosts-run g a = record { name = a.blank.name; parts = a.blank.parts }
