use Rattle.jb_job.specs.JobRecord.{range_pair_at}
use Rattle.jb_base.specs.declared.range.Range.{Range}
use Rattle.jb_job.proofs.partition.ranges.Given as goal

abbrev pub ghosts-each : goal.ghosts-each
ghosts-each a = record { Shown = Range; shown = λ range. range; kind = λ done. range_pair_at }
