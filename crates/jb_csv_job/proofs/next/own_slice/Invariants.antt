use Rattle.jb_csv_job.proofs.next.own_slice.Given as goal

abbrev pub ghosts-kept_slice : goal.ghosts-kept_slice
ghosts-kept_slice g a = record { log = g.H.Stored.log a.number; db = g.H.Stored.db a.number }
