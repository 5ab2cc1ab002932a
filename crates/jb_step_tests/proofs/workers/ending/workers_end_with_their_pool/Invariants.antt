use Rattle.jb_step_tests.proofs.workers.ending.workers_end_with_their_pool.Given as goal

abbrev pub ghosts-on_a_desk : goal.ghosts-on_a_desk
ghosts-on_a_desk g a = record { name = a.blank.name; parts = a.blank.parts }
