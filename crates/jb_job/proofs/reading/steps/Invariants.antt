use Rattle.jb_job.specs.JobRecord.{step_at}
use Rattle.jb_job.specs.Records.{StepRecord}
use Rattle.jb_job.proofs.reading.steps.Given as goal

abbrev pub ghosts-each : goal.ghosts-each
ghosts-each a = record { Shown = StepRecord; shown = λ step. step; kind = step_at a.read.1.now }
