-- The JSON trees of the documents, with the keys of each object in byte order (own choice).
use Rattle.std.specs.Prelude.{ℕ, List, [], ◌∷◌, map, codes, slice_index_or, Option, Some, None}
use Rattle.serde_json.specs.Data.{Data, string, object, Members, no_members}
use Rattle.jb_base.specs.declared.class.ClassId.{ClassId}
use Rattle.jb_job.specs.declared.field.Field.TheVariants as field
use Rattle.jb_job.specs.JobTree.{number_tree, list_tree, with_field, job_tree}
use Rattle.jb_cert.specs.declared.certificates.Certificate.{Certificate}
use Rattle.jb_cert.specs.declared.certificates.Certificate.TheVariants.{Nothing, Longest, FullLoad}
use Rattle.jb_cert.specs.declared.plans.Slot.{Slot}
use Rattle.jb_cert.specs.Load.{Load}
use Rattle.jb_saved.specs.SavedTree.{saved_tree}
use Rattle.jb_documents.specs.CheckDocument.{Claim}
use Rattle.jb_documents.specs.declared.restart.document.RestartDocument.{RestartDocument}
use Rattle.jb_documents.specs.declared.restart.resume.Resume.{Resume}
use Rattle.jb_documents.specs.declared.run.document.Document.{Document}
use Rattle.jb_documents.specs.declared.run.faults.FaultKind.{FaultKind}
use Rattle.jb_documents.specs.declared.run.faults.FaultKind.TheVariants.{Bad, Shaky}
use Rattle.jb_documents.specs.declared.run.faults.PlannedFault.{PlannedFault}
use Rattle.jb_documents.specs.declared.run.faults.StepFaults.{StepFaults}
use Rattle.jb_documents.specs.declared.run.step_data.StepData.{StepData}
use Rattle.jb_documents.specs.ResumeFields.{WrittenTexts}

-- ---- the document of `plan`

abbrev pub load_tree : Load → Data
load_tree load = object
    (with_field field.Counts (list_tree (map number_tree load.counts))
    (with_field field.Threads (number_tree load.threads) no_members))

-- ---- the document of `check`

abbrev pub slot_tree : Slot → Data
slot_tree slot = list_tree (number_tree slot.lane ∷ number_tree slot.partition ∷ number_tree slot.chunk ∷ [])

abbrev pub round_tree : List Slot → Data
round_tree round = list_tree (map slot_tree round)

abbrev pub certificate_tree : Certificate → Data
certificate_tree Nothing = string (codes "Nothing")
certificate_tree (Longest partition) = number_tree partition
certificate_tree FullLoad = string (codes "FullLoad")

abbrev pub claim_tree : Claim → Data
claim_tree claim = object
    (with_field field.Certificate (certificate_tree claim.certificate)
    (with_field field.Counts (list_tree (map number_tree claim.counts))
    (with_field field.Rounds (list_tree (map round_tree claim.rounds))
    (with_field field.Threads (number_tree claim.threads) no_members))))

-- ---- the document of `run`

-- the name of a class, which is at its number in the list
abbrev pub class_tree : (classes : List (List ℕ)) → ClassId → Data
class_tree classes class = string (slice_index_or classes class.number [])

abbrev pub word_of : FaultKind → List ℕ
word_of (Bad class) = codes "bad"
word_of (Shaky faults) = codes "shaky"

abbrev pub kind_tree : (classes : List (List ℕ)) → FaultKind → Data
kind_tree classes (Bad class) = class_tree classes class
kind_tree classes (Shaky faults) = list_tree (map (class_tree classes) faults)

abbrev pub fault_tree : (classes : List (List ℕ)) → PlannedFault → Data
fault_tree classes fault = list_tree (number_tree fault.number ∷ string (word_of fault.kind) ∷ kind_tree classes fault.kind ∷ [])

abbrev pub faults_tree : (classes : List (List ℕ)) → List PlannedFault → Data
faults_tree classes faults = list_tree (map (fault_tree classes) faults)

abbrev pub step_faults_tree : (classes : List (List ℕ)) → StepFaults → Data
step_faults_tree classes faults = object
    (with_field field.Process (faults_tree classes faults.process)
    (with_field field.Read (faults_tree classes faults.read)
    (with_field field.Write (faults_tree classes faults.write) no_members)))

abbrev pub with_drop : Option (List ℕ) → Members → Members
with_drop None others = others
with_drop (Some text) others = with_field field.Drop (string text) others

abbrev pub data_tree : (classes : List (List ℕ)) → StepData → Data
data_tree classes given = object
    (with_drop given.drop
    (with_field field.Faults (step_faults_tree classes given.faults)
    (with_field field.Prefix (string given.prefix)
    (with_field field.Records (list_tree (map string given.records)) no_members))))

abbrev pub document_tree : Document → Data
document_tree document = object
    (with_field field.Data (list_tree (map (data_tree document.job.classes) document.step_data))
    (with_field field.Job (job_tree document.job) no_members))

-- ---- the document of `restart`

abbrev pub texts_tree : WrittenTexts → Data
texts_tree texts = list_tree (map string texts)

abbrev pub resume_tree : Resume → Data
resume_tree resume = object
    (with_field field.Outputs (list_tree (map texts_tree resume.outputs))
    (with_field field.Saved (saved_tree resume.saved) no_members))

abbrev pub restart_tree : RestartDocument → Data
restart_tree document = object
    (with_field field.Data (list_tree (map (data_tree document.job.classes) document.step_data))
    (with_field field.Job (job_tree document.job)
    (with_field field.Resume (resume_tree document.resume) no_members)))
