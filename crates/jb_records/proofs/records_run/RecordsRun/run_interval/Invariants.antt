use Rattle.jb_records.proofs.records_run.RecordsRun.run_interval.Given as goal

abbrev pub ghosts-run_interval_over : goal.ghosts-run_interval_over
ghosts-run_interval_over g a = record { name = a.blank.name; parts = a.blank.parts }
