-- The document of `run` that a JSON tree holds, or its first fault (own choice): a job record, and the data of each
-- of its steps. The whole job is read before the data, and the data of a step before that of the next.
use Rattle.std.specs.Prelude.{◌≡◌, ℕ, ◌==◌, List, [], ◌∷◌, length, Some, Ok, Err, if◌then◌else◌}
use Rattle.serde_json.specs.Data.{Data}
use Rattle.serde_json.specs.Events.{items_len}
use Rattle.serde_json.specs.Find.{as_array}
use Rattle.jb_job.specs.declared.field.Field.{Field}
use Rattle.jb_job.specs.declared.field.Field.TheVariants as field
use Rattle.jb_job.specs.declared.job.Job.{Job}
use Rattle.jb_job.specs.declared.error.JobError.{JobError}
use Rattle.jb_job.specs.Reading.{wrong_shape, GivesOfText, tree_of, Read, ◌>>=◌, shaped, object_at, each_at, required}
use Rattle.jb_job.specs.JobRecord.{job_at}
use Rattle.jb_documents.specs.declared.run.document.Document.{Document}
use Rattle.jb_documents.specs.declared.run.step_data.StepData.{StepData}
use Rattle.jb_documents.specs.StepFields.{data_at}

-- as many as the job has steps
unfoldable pub data_list_at : Job → Field → Data → Read (List StepData)
data_list_at job f d = do
  items ← shaped f (as_array d)
  if items_len items == length job.steps then each_at (λ _. data_at job.classes) items else Err (wrong_shape f)

unfoldable pub document_at : Data → Read Document
document_at d = do
  document ← object_at field.Unknown (field.Job ∷ field.Data ∷ []) d
  job ← required (λ f. job_at) field.Job document
  steps ← required (data_list_at job) field.Data document
  Ok (record { job = job; step_data = steps })

-- the bytes are the JSON text of this document
pub record IsDocument (bytes : List ℕ) (document : Document) : Type 0 where
  pub tree : Data
  pub text : tree_of bytes ≡ Some tree
  pub fields : document_at tree ≡ Ok document

-- The bytes have this as their first fault: they are no JSON text, or the tree is no document.
abbrev pub IsRefusedDocument : JobError → List ℕ → Type 0
IsRefusedDocument fault bytes = GivesOfText {X = Document} (λ document. document) document_at (Err fault) (tree_of bytes)
