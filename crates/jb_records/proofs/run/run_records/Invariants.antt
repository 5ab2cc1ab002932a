use Rattle.jb_records.proofs.run.run_records.Given as goal

abbrev pub ghosts-run_last : goal.ghosts-run_last
ghosts-run_last g a = record { name = a.blank.name; parts = a.blank.parts }
