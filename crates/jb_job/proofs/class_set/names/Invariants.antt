use Rattle.std.specs.Prelude.{ℕ}
use Rattle.jb_job.specs.JobRecord.{bits_at}
use Rattle.jb_job.proofs.class_set.names.Given as goal

abbrev pub ghosts-each : goal.ghosts-each
ghosts-each a = record { Shown = ℕ; shown = λ bits. bits; kind = λ done. bits_at a.read.0.now a.read.1.now a.read.2.now }
