use Rattle.jb_step_tests.proofs.step.runs.run_told.Given as goal

abbrev pub ghosts-on_a_desk : goal.ghosts-on_a_desk
ghosts-on_a_desk g a = record { name = a.blank.name; parts = a.blank.parts }
