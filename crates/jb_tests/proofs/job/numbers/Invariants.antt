use Rattle.std.specs.Prelude.{ℕ}
use Rattle.jb_job.specs.declared.field.Field.TheVariants as field
use Rattle.jb_job.specs.Reading.{shaped, whole_number}
use Rattle.jb_tests.proofs.job.numbers.Given as goal

abbrev pub ghosts-each_by_value : goal.ghosts-each_by_value
ghosts-each_by_value a = record { Shown = ℕ; shown = λ n. n; kind = λ done d. shaped field.Rounds (whole_number d) }
