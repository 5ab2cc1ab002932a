use Rattle.std.specs.Prelude.{ℕ}
use Rattle.jb_job.specs.declared.field.Field.TheVariants as field
use Rattle.jb_job.specs.Reading.{number_at}
use Rattle.jb_base.specs.Limits.{max_chunks}
use Rattle.jb_documents.proofs.plan.counts.count_list.Given as goal

abbrev pub ghosts-each : goal.ghosts-each
ghosts-each a = record { Shown = ℕ; shown = λ n. n; kind = λ done. number_at 0 max_chunks field.Counts }
