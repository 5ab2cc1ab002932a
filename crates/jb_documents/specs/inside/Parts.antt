-- The document of `restart` after its job, as code reads it: by the parts that were taken out of the tree.
use Rattle.std.specs.Prelude.{Option, Result, Ok}
use Rattle.serde_json.specs.Data.{Data}
use Rattle.jb_job.specs.declared.field.Field.TheVariants as field
use Rattle.jb_job.specs.declared.job.Job.{Job}
use Rattle.jb_documents.specs.declared.restart.document.RestartDocument.{RestartDocument}
use Rattle.jb_documents.specs.RestartDocument.{Refusal, ◌>>=◌, fields, resume_at}
use Rattle.jb_documents.specs.RunDocument.{data_list_at}
use Rattle.jb_documents.specs.inside.Taken.{taken}

-- the data, and then what the run before left
unfoldable pub parts_at : Job → (given left : Option Data) → Result RestartDocument Refusal
parts_at job given left = do
  steps ← fields (taken (data_list_at job) field.Data given)
  tree ← fields (taken (λ f d. Ok d) field.Resume left)
  resume ← resume_at job.steps field.Resume tree
  Ok (record { job = job; step_data = steps; resume = resume })
