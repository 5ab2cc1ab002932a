-- Worked documents and what they mean, written out apart from the code.
use Rattle.std.specs.Prelude.{◌≡◌, ℕ, List, [], ◌∷◌, ◌++◌, codes, Some}
use Rattle.serde_json.specs.Written.{compact_text}
use Rattle.jb_job.specs.JobTree.{job_tree}
use Rattle.jb_job.specs.Worked.{classes_job}
use Rattle.jb_cert.specs.declared.plans.Slot.{Slot}
use Rattle.jb_cert.specs.declared.certificates.Certificate.TheVariants.{FullLoad}
use Rattle.jb_saved.specs.SavedRows.{SavedRows}
use Rattle.jb_saved.specs.Worked.{stopped}
use Rattle.jb_documents.specs.CheckDocument.{Claim}
use Rattle.jb_base.specs.Classes.{class_of}
use Rattle.jb_documents.specs.declared.run.document.Document.{Document}
use Rattle.jb_documents.specs.declared.run.faults.FaultKind.TheVariants.{Bad, Shaky}
use Rattle.jb_documents.specs.declared.run.faults.PlannedFault.{PlannedFault}
use Rattle.jb_documents.specs.declared.run.step_data.StepData.{StepData}
use Rattle.jb_documents.specs.DocumentRanges.{AreFaults, IsLeft, IsSlot}
use Rattle.jb_documents.specs.DocumentTrees.{load_tree, claim_tree, document_tree}
use Rattle.jb_documents.specs.ResumeFields.{WrittenTexts}

-- full load: three equal partitions on two threads
abbrev pub three_equal_document : List ℕ
three_equal_document = codes "{\"counts\":[3,3,3],\"threads\":2}"

-- two partitions on two threads, and a plan of two rounds
abbrev pub slot_in : (lane partition chunk : ℕ) → Slot
slot_in lane partition chunk = record { lane = lane; partition = partition; chunk = chunk }

abbrev pub two_rounds_claim : Claim
two_rounds_claim = record {
  counts = 2 ∷ 1 ∷ [];
  threads = 2;
  rounds = (slot_in 0 0 0 ∷ slot_in 1 1 0 ∷ []) ∷ (slot_in 0 0 1 ∷ []) ∷ [];
  certificate = FullLoad;
}

abbrev pub two_rounds_document : List ℕ
two_rounds_document = codes "{\"counts\":[2,1],\"threads\":2,\"rounds\":[[[0,0,0],[1,1,0]],[[0,0,1]]],\"certificate\":\"FullLoad\"}"

-- three records, of which the first can't be read and the third can't be processed, and a call for the first fails twice
abbrev pub bad_record : (number class : ℕ) → PlannedFault
bad_record number class = record { number = number; kind = Bad (class_of class) }

abbrev pub three_records : StepData
three_records = record {
  records = codes "a" ∷ codes "b" ∷ codes "c" ∷ [];
  prefix = codes "p";
  drop = Some (codes "x");
  faults = record {
    read = bad_record 0 0 ∷ [];
    process = record { number = 0; kind = Shaky (class_of 0 ∷ class_of 2 ∷ []) } ∷ bad_record 2 1 ∷ [];
    write = [];
  };
}

abbrev pub run_document : Document
run_document = record { job = classes_job; step_data = three_records ∷ [] }

abbrev pub worked_slot : (lane : ℕ) → Slot
worked_slot lane = slot_in lane 0 0

-- two texts of a writer
abbrev pub two_texts : WrittenTexts
two_texts = codes "a" ∷ codes "b" ∷ []

-- what was left of a step that was stopped: two results of each of its first two partitions, and none of the third
abbrev pub Left : List WrittenTexts → SavedRows → Type 0
Left outputs saved = IsLeft classes_job.steps (record { outputs = outputs; saved = saved })

pub record DocumentRows : Type 0 where
  -- their trees, written
  pub run :
      compact_text (document_tree run_document)
      ≡ codes "{\"data\":[{\"drop\":\"x\",\"faults\":{\"process\":[[0,\"shaky\",[\"E\",\"G\"]],[2,\"bad\",\"F\"]],\"read\":[[0,\"bad\",\"E\"]],\"write\":[]},\"prefix\":\"p\",\"records\":[\"a\",\"b\",\"c\"]}],\"job\":" ++ (compact_text (job_tree classes_job) ++ codes "}")
  pub plan : compact_text (load_tree (record { counts = 3 ∷ 3 ∷ 3 ∷ []; threads = 2 })) ≡ three_equal_document
  pub check :
      compact_text (claim_tree two_rounds_claim)
      ≡ codes "{\"certificate\":\"FullLoad\",\"counts\":[2,1],\"rounds\":[[[0,0,0],[1,1,0]],[[0,0,1]]],\"threads\":2}"
  -- faults of three records and three classes: of rising records, of one record twice, past the records, of no class
  pub rising : AreFaults classes_job.classes 3 (bad_record 0 2 ∷ bad_record 2 2 ∷ [])
  pub twice : AreFaults classes_job.classes 3 (bad_record 2 2 ∷ bad_record 2 2 ∷ []) → ⊥
  pub past : AreFaults classes_job.classes 3 (bad_record 3 2 ∷ []) → ⊥
  pub undeclared : AreFaults classes_job.classes 3 (bad_record 0 3 ∷ []) → ⊥
  -- lanes up to the last one
  pub last_lane : IsSlot (worked_slot 4294967295)
  pub past_lanes : IsSlot (worked_slot 4294967296) → ⊥
  -- what was left: as it is, with a result less than was committed, without a writer, and of another step
  pub left : Left (two_texts ∷ two_texts ∷ [] ∷ []) stopped
  pub fewer : Left (two_texts ∷ (codes "a" ∷ []) ∷ [] ∷ []) stopped → ⊥
  pub no_writer : Left (two_texts ∷ two_texts ∷ []) stopped → ⊥
  pub another : Left (two_texts ∷ two_texts ∷ [] ∷ []) (record stopped { step = codes "t" }) → ⊥
