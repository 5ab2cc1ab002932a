-- The results that a task gives of packed records.
use Rattle.std.proofs.Common.{◌≡◌, ◌∙◌, List, map, refl}
use Rattle.jb_csv_job.proofs.Writing.{given-packed}
use Rattle.jb_csv_job.specs.Tasks.{given_by}
use Rattle.jb_csv_job.specs.declared.asked.Task.{Task}
use Rattle.jb_csv_job.specs.declared.asked.Task.TheVariants.{Collect, Part, Run}
use Rattle.jb_rows.specs.Answers.{all_results}
use Rattle.jb_rows.specs.Fields.{Fields, fields_in, packed}
use Rattle.jb_slices.specs.Function as slices
use Rattle.jb_slices.specs.Function.{Function}

of-given : (task : Task) (f : Function) (records : List Fields) → given_by task (all_results f records) ≡ all_results f (given_by task records)
of-given Run f records = refl
of-given (Part part of) f records = refl
of-given Collect f records = refl

pub given-results : (task : Task) (f : Function) (records : List Fields) → map fields_in (given_by task (slices.all_results f (map packed records))) ≡ all_results f (given_by task records)
given-results task f records = given-packed task f records ∙ of-given task f records
