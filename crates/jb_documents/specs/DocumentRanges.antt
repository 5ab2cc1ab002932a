-- The ranges of the documents: what every document of a tree keeps.
use Rattle.std.specs.Prelude.{◌≡◌, ℕ, ◌≤◌, ◌<◌, ⊤, List, length, map, All, Contains, IfSome}
use Rattle.std.specs.List.{zip}
use Rattle.std.specs.List.Sorted.{IsStrictlyIncreasing}
use Rattle.jb_base.specs.declared.class.ClassId.{ClassId}
use Rattle.jb_job.specs.JobRanges.{IsJob}
use Rattle.jb_base.specs.Limits.{max_records, max_record, max_affix, max_entries, max_entry_classes, max_place}
use Rattle.jb_job.specs.Records.{StepRecord}
use Rattle.jb_cert.specs.declared.certificates.Certificate.{Certificate}
use Rattle.jb_cert.specs.declared.certificates.Certificate.TheVariants.{Nothing, Longest, FullLoad}
use Rattle.jb_cert.specs.declared.plans.Slot.{Slot}
use Rattle.jb_cert.specs.Load.{IsWithinLimits}
use Rattle.jb_rules.specs.declared.row.Row.{Row}
use Rattle.jb_documents.specs.CheckDocument.{Claim}
use Rattle.jb_documents.specs.declared.restart.document.RestartDocument.{RestartDocument}
use Rattle.jb_documents.specs.declared.restart.resume.Resume.{Resume}
use Rattle.jb_documents.specs.declared.run.document.Document.{Document}
use Rattle.jb_documents.specs.declared.run.faults.FaultKind.{FaultKind}
use Rattle.jb_documents.specs.declared.run.faults.FaultKind.TheVariants.{Bad, Shaky}
use Rattle.jb_documents.specs.declared.run.faults.PlannedFault.{PlannedFault}
use Rattle.jb_documents.specs.declared.run.step_data.StepData.{StepData}
use Rattle.jb_documents.specs.ResumeFields.{WrittenTexts}

-- ---- the document of `run`

-- the class of a name that the job declares
abbrev pub IsDeclared : (classes : List (List ℕ)) → ClassId → Type 0
IsDeclared classes class = class.number < length classes

-- the classes of an entry with `shaky`
pub record AreShaky (classes : List (List ℕ)) (faults : List ClassId) : Type 0 where
  pub some : 1 ≤ length faults
  pub few : length faults ≤ max_entry_classes
  pub declared : All (IsDeclared classes) faults

abbrev pub IsKind : (classes : List (List ℕ)) → FaultKind → Type 0
IsKind classes (Bad class) = IsDeclared classes class
IsKind classes (Shaky faults) = AreShaky classes faults

-- the fault of one of so many records
pub record IsPlannedFault (classes : List (List ℕ)) (records : ℕ) (fault : PlannedFault) : Type 0 where
  pub within : fault.number < records
  pub kind : IsKind classes fault.kind

-- the faults of an artifact
pub record AreFaults (classes : List (List ℕ)) (records : ℕ) (faults : List PlannedFault) : Type 0 where
  pub few : length faults ≤ max_entries
  pub rise : IsStrictlyIncreasing (map (λ fault. fault.number) faults)
  pub each : All (IsPlannedFault classes records) faults

-- the data of a step of a job with these classes
pub record IsStepData (classes : List (List ℕ)) (given : StepData) : Type 0 where
  pub few_records : length given.records ≤ max_records
  pub short_records : All (λ text. length text ≤ max_record) given.records
  pub short_prefix : length given.prefix ≤ max_affix
  pub some_drop : IfSome given.drop (λ text. 1 ≤ length text)
  pub short_drop : IfSome given.drop (λ text. length text ≤ max_affix)
  pub read : AreFaults classes (length given.records) given.faults.read
  pub process : AreFaults classes (length given.records) given.faults.process
  pub write : AreFaults classes (length given.records) given.faults.write

pub record IsRunDocument (document : Document) : Type 0 where
  pub job : IsJob document.job
  pub one_each : length document.step_data ≡ length document.job.steps
  pub each : All (IsStepData document.job.classes) document.step_data

-- ---- the document of `check`

pub record IsSlot (slot : Slot) : Type 0 where
  pub lane : slot.lane ≤ max_place
  pub partition : slot.partition ≤ max_place

abbrev pub IsNamed : Certificate → Type 0
IsNamed Nothing = ⊤
IsNamed (Longest partition) = partition ≤ max_place
IsNamed FullLoad = ⊤

pub record IsClaim (claim : Claim) : Type 0 where
  pub load : IsWithinLimits claim.counts claim.threads
  pub rounds : All (All IsSlot) claim.rounds
  pub certificate : IsNamed claim.certificate

-- ---- the document of `restart`

-- a writer holds the results that its row committed, and may hold more
abbrev pub HoldsResults : WrittenTexts × Row → Type 0
HoldsResults (texts, row) = row.written ≤ length texts

-- what the run before left of one of these steps
pub record IsLeft (steps : List StepRecord) (resume : Resume) : Type 0 where
  pub one_each : length resume.outputs ≡ length resume.saved.rows
  pub held : All HoldsResults (zip resume.outputs resume.saved.rows)
  pub named : Contains (map (λ step. step.id) steps) resume.saved.step

pub record IsRestartDocument (document : RestartDocument) : Type 0 where
  pub run : IsRunDocument (record { job = document.job; step_data = document.step_data })
  pub resume : IsLeft document.job.steps document.resume
