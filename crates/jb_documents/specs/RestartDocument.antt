-- The document of `restart` that a JSON tree holds, or its first fault (own choice). It is a document of `run` that also
-- says, under `resume`, what the run before left. The whole job is read before the data, and these before `resume`.
use Rattle.std.specs.Prelude.{◌≡◌, ℕ, List, [], ◌∷◌, ◌++◌, codes, bytes_eq, Option, Some, None, Result, Ok, Err, ◌⊎◌, if◌then◌else◌}
use Rattle.std.specs.List.{list_any}
use Rattle.serde_json.specs.Data.{Data}
pub use Rattle.jb_base.specs.Causes.{◌>>=◌}
use Rattle.jb_base.specs.Causes.{Cause, no_memory, of_fault, never, Answers}
use Rattle.jb_job.specs.declared.error.JobError.TheVariants as job_error
use Rattle.jb_job.specs.declared.field.Field.{Field}
use Rattle.jb_job.specs.declared.field.Field.TheVariants as field
use Rattle.jb_job.specs.JobRecord.{job_at}
use Rattle.jb_job.specs.Names.{fault_text}
use Rattle.jb_job.specs.Reading.{Fault, Read, cause_of, object_at, required, tree_of}
use Rattle.jb_job.specs.Records.{StepRecord}
use Rattle.jb_saved.specs.declared.place.SavedPlace.{SavedPlace}
use Rattle.jb_saved.specs.declared.place.SavedPlace.TheVariants.{Step}
use Rattle.jb_saved.specs.Places.{place_text}
use Rattle.jb_saved.specs.Reading.{saved_at}
use Rattle.jb_saved.specs.SavedRows.{SavedRows}
use Rattle.jb_documents.specs.declared.restart.document.RestartDocument.{RestartDocument}
use Rattle.jb_documents.specs.declared.restart.fault.RestartFault.{RestartFault}
use Rattle.jb_documents.specs.declared.restart.fault.RestartFault.TheVariants.{Document, Saved}
use Rattle.jb_documents.specs.declared.restart.resume.Resume.{Resume}
use Rattle.jb_documents.specs.ResumeFields.{outputs_at, held_outputs_at}
use Rattle.jb_documents.specs.RunDocument.{data_list_at}

-- what is refused: a field of the document, or the saved rows
pub data Refusal : Type 0 where
  of_field : Fault → Refusal
  of_saved : SavedPlace → Refusal

-- what fields give
abbrev pub fields : {A : Type 0} → Read A → Result A Refusal
fields (Ok x) = Ok x
fields (Err fault) = Err (of_field fault)

-- what the saved rows give
abbrev pub saves : {A : Type 0} → Result A SavedPlace → Result A Refusal
saves (Ok x) = Ok x
saves (Err place) = Err (of_saved place)

-- the saved rows are those of a step of the job
abbrev pub named_in : List StepRecord → SavedRows → Result SavedRows SavedPlace
named_in steps s = if list_any (λ (step : StepRecord). bytes_eq step.id s.step) steps then Ok s else Err Step

-- keys and kinds first, then the saved object, read whole, then what the two say of each other, then the step's name
unfoldable pub resume_at : List StepRecord → Field → Data → Result Resume Refusal
resume_at steps f d = do
  resume ← fields (object_at f (field.Outputs ∷ field.Saved ∷ []) d)
  outputs ← fields (required outputs_at field.Outputs resume)
  tree ← fields (required (λ f d. Ok d) field.Saved resume)
  saved ← saves (saved_at tree)
  held ← fields (held_outputs_at field.Outputs outputs saved.rows)
  named ← saves (named_in steps saved)
  Ok (record { outputs = held; saved = named })

unfoldable pub restart_at : Data → Result RestartDocument Refusal
restart_at d = do
  document ← fields (object_at field.Unknown (field.Job ∷ field.Data ∷ field.Resume ∷ []) d)
  job ← fields (required (λ f. job_at) field.Job document)
  steps ← fields (required (data_list_at job) field.Data document)
  tree ← fields (required (λ f d. Ok d) field.Resume document)
  resume ← resume_at job.steps field.Resume tree
  Ok (record { job = job; step_data = steps; resume = resume })

-- ---- what code is held to

-- a fault of a field is one of the document's
abbrev pub in_document : Cause Fault → Cause Refusal
in_document no_memory = no_memory
in_document (of_fault fault) = of_fault (of_field fault)
in_document never = never

-- what an error says of a document
abbrev pub restart_cause : RestartFault → Cause Refusal
restart_cause (Document error) = in_document (cause_of error)
restart_cause (Saved place) = of_fault (of_saved place)

-- what a function returned is what reading gives, unless memory ran out
abbrev pub GivesRestart : {Y : Type 0} → Result Y RestartFault → Result Y Refusal → Type 0
GivesRestart result reading = Answers restart_cause (λ x. x) result reading

-- the bytes are the JSON text of this document
pub record IsRestartText (bytes : List ℕ) (document : RestartDocument) : Type 0 where
  pub tree : Data
  pub text : tree_of bytes ≡ Some tree
  pub fields : restart_at tree ≡ Ok document

-- what reading a text gives: NotJson exactly where it has no tree, unless memory ran out
abbrev pub IsRefusedTree : RestartFault → Option Data → Type 0
IsRefusedTree fault None = (fault ≡ Document job_error.NotJson) ⊎ (fault ≡ Document job_error.Memory)
IsRefusedTree fault (Some d) = GivesRestart (Err fault) (restart_at d)

-- The bytes have this as their first fault: they are no JSON text, or the tree is no document.
abbrev pub IsRefusedRestart : RestartFault → List ℕ → Type 0
IsRefusedRestart fault bytes = IsRefusedTree fault (tree_of bytes)

-- how a fault is printed
abbrev pub restart_fault_text : RestartFault → List ℕ
restart_fault_text (Document error) = fault_text error
restart_fault_text (Saved place) = codes "Saved(" ++ (place_text place ++ codes ")")
