use Rattle.std.specs.Prelude.{ℕ, List, string_bytes}
use Rattle.jb_job.specs.declared.field.Field.TheVariants as field
use Rattle.jb_job.specs.JobRecord.{class_name_at}
use Rattle.jb_job.proofs.class_list.class_list.Given as goal

abbrev pub ghosts-each : goal.ghosts-each
ghosts-each a = record { Shown = List ℕ; shown = string_bytes; kind = λ done. class_name_at field.ExceptionClasses }
