use Rattle.jb_program.proofs.run.step.run_job_step.Given as goal

abbrev pub ghosts-run_over_desk : goal.ghosts-run_over_desk
ghosts-run_over_desk g a = record { name = a.blank.name; parts = a.blank.parts }
