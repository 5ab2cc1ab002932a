-- What is read of a document keeps its ranges.
use Rattle.std.proofs.Common.{◌≡◌, ℕ, ◌+◌, ◌-◌, ◌≤◌, ◌<◌, Bool, true, false, inl, inr, cond, List, [], ◌∷◌, ◌++◌, length, get_or, map, sum, Option, Some, None, Ok, Err, IfOk, All, refl, sym, ap, ◌∙◌, arith, length-append}
use Rattle.std.specs.Prelude.{◌&&◌, ◌==◌, nat_le, nat_lt, bytes_eq, slice_get, IfSome, if◌then◌else◌, codes}
use Rattle.std.specs.List.{position_or_len}
use Rattle.std.specs.List.Sorted.{IsStrictlyIncreasing}
use Rattle.std.proofs.lemmas.Bool.{cases_lt, eqb-true, leb-true, ltb-true}
use Rattle.std.proofs.lemmas.Bool.Decides.{nat_tests}
use Rattle.std.proofs.lemmas.List.{get_or-map, length-map, map-append}
use Rattle.std.proofs.lemmas.List.Elements.{All-append, All-cons, All-nil}
use Rattle.std.proofs.lemmas.Option.{IfSome_then, slice_get-get_or}
use Rattle.std.proofs.lemmas.Result.{IfOk-weaker}
use Rattle.std.proofs.Math.ListN.{get_or-append}
use Rattle.std.proofs.Math.Seq.{get_or-append_seam}
use Rattle.std.proofs.Math.Nat.{min-eq_left}
use Rattle.serde_json.specs.Data.{Data}
use Rattle.serde_json.specs.Events.{items_len}
use Rattle.serde_json.specs.Find.{as_str, as_array}
use Rattle.jb_base.specs.Causes.{◌>>=◌}
use Rattle.jb_base.proofs.Causes.{followed, next, answer-has}
use Rattle.jb_job.specs.declared.field.Field.{Field}
use Rattle.jb_job.specs.declared.field.Field.TheVariants as field
use Rattle.jb_job.specs.declared.job.Job.{Job}
use Rattle.jb_job.specs.JobRanges.{IsJob}
use Rattle.jb_job.specs.JobRecord.{job_at}
use Rattle.jb_job.specs.Laws.{JobsKeepRanges}
use Rattle.jb_base.specs.Limits.{max_classes, max_records, max_record, max_affix, max_entries, max_entry_classes, max_place, max_load_partitions, max_chunks, max_threads}
use Rattle.jb_job.specs.Reading.{wrong_shape, shaped, whole_number, list_at, text_at, number_at, triple_at, object_at, required, optional, each_at}
use Rattle.jb_job.proofs.FieldRanges.{if-so, if-read, text-between, number-between, list-between, required-has, optional-has, each-long, each-has, both, members-have}
use Rattle.jb_job.proofs.Kept.{in-range, each-keeps}
use Rattle.jb_cert.specs.declared.certificates.Certificate.TheVariants.{Nothing, FullLoad}
use Rattle.jb_cert.specs.Load.{Load, IsWithinLimits}
use Rattle.jb_documents.specs.CheckDocument.{Claim, slot_at, round_at, rounds_at, certificate_by, certificate_at, check_document_at}
use Rattle.jb_base.specs.Classes.{class_of}
use Rattle.jb_documents.specs.declared.run.document.Document.{Document}
use Rattle.jb_documents.specs.declared.run.faults.PlannedFault.{PlannedFault}
use Rattle.jb_documents.specs.declared.run.faults.StepFaults.{StepFaults}
use Rattle.jb_documents.specs.DocumentRanges.{IsDeclared, AreShaky, IsKind, IsPlannedFault, AreFaults, IsStepData, IsRunDocument, IsSlot, IsNamed, IsClaim}
use Rattle.jb_documents.specs.FaultLists.{FaultForm, bad, shaky, form_at, is_past, fault_number, known_class, class_named, named_class_at, shaky_classes_at, fault_kind, planned_fault_at, planned_faults_at, no_faults, step_faults_at}
use Rattle.jb_documents.specs.PlanDocument.{counts_at, plan_document_at}
use Rattle.jb_documents.specs.RunDocument.{data_list_at, document_at}
use Rattle.jb_documents.specs.StepFields.{records_at, drop_at, data_at}

-- ---- the document of `plan`

counts-read : (f : Field) (d : Data) → IfOk (counts_at f d) (λ counts. (length counts ≤ max_load_partitions) × (sum counts ≤ max_chunks))
unfolding counts_at
counts-read f d = followed _ _ (list_at 0 max_load_partitions f d) _ (list-between 0 max_load_partitions f d) (λ items within.
    followed _ _ (each_at (λ _. number_at 0 max_chunks f) items) _ (each-long (λ _. number_at 0 max_chunks f) items) (λ counts long.
    in-range (λ found. (length found ≤ max_load_partitions) × (sum found ≤ max_chunks)) f _ counts (λ few. (omega (arith, long, within.1), leb-true (sum counts) max_chunks few))))

load-read : (d : Data) → IfOk (plan_document_at d) (λ load. IsWithinLimits load.counts load.threads)
unfolding plan_document_at
load-read d =
    next _ (object_at field.Unknown _ d) _ (λ document.
    followed _ _ (required counts_at field.Counts document) _ (required-has (λ counts. (length counts ≤ max_load_partitions) × (sum counts ≤ max_chunks)) counts_at field.Counts document (counts-read field.Counts)) (λ counts few.
    followed _ _ (required (number_at 1 max_threads) field.Threads document) _ (required-has (λ n. (1 ≤ n) × (n ≤ max_threads)) (number_at 1 max_threads) field.Threads document (number-between 1 max_threads field.Threads)) (λ threads some.
    record { few_counts = few.0; few_chunks = few.1; some_thread = some.0; few_threads = some.1 })))

pub loads-keep : (d : Data) (load : Load) → plan_document_at d ≡ Ok load → IsWithinLimits load.counts load.threads
loads-keep d load is = answer-has (λ (l : Load). IsWithinLimits l.counts l.threads) (plan_document_at d) load (load-read d) is

-- ---- the document of `check`

places-few : (lane partition : ℕ) → (nat_le lane max_place && nat_le partition max_place) ≡ true → (lane ≤ max_place) × (partition ≤ max_place)
places-few lane partition inside = grind (arith, nat_tests)

slot-read : (f : Field) (d : Data) → IfOk (slot_at f d) IsSlot
unfolding slot_at
slot-read f d =
    next _ (triple_at f d) _ (λ triple. next _ (shaped f (whole_number triple.0)) _ (λ lane. next _ (shaped f (whole_number triple.1)) _ (λ partition. next _ (shaped f (whole_number triple.2)) _ (λ chunk.
    in-range IsSlot f _ _ (λ inside. let few = places-few lane partition inside in record { lane = few.0; partition = few.1 })))))

round-read : (f : Field) (d : Data) → IfOk (round_at f d) (All IsSlot)
unfolding round_at
round-read f d = next _ (shaped f (as_array d)) _ (λ items. each-has IsSlot (λ _. slot_at f) (λ _. slot-read f) items)

rounds-read : (f : Field) (d : Data) → IfOk (rounds_at f d) (All (All IsSlot))
unfolding rounds_at
rounds-read f d = next _ (shaped f (as_array d)) _ (λ items. each-has (All IsSlot) (λ _. round_at f) (λ _. round-read f) items)

name-by : (f : Field) (nothing full : Bool) → IfOk (if nothing then Ok Nothing else (if full then Ok FullLoad else Err (wrong_shape f))) IsNamed
name-by f true full = tt
name-by f false true = tt
name-by f false false = tt

certificate-by : (found : Option (List ℕ)) (f : Field) (d : Data) → IfOk (certificate_by found f d) IsNamed
certificate-by (Some name) f d = name-by f (bytes_eq name (codes "Nothing")) (bytes_eq name (codes "FullLoad"))
certificate-by None f d = followed _ _ (number_at 0 max_place f d) _ (number-between 0 max_place f d) (λ partition few. few.1)

certificate-read : (f : Field) (d : Data) → IfOk (certificate_at f d) IsNamed
unfolding certificate_at
certificate-read f d = certificate-by (as_str d) f d

claim-read : (d : Data) → IfOk (check_document_at d) IsClaim
unfolding check_document_at
claim-read d =
    next _ (object_at field.Unknown _ d) _ (λ document.
    followed _ _ (required counts_at field.Counts document) _ (required-has (λ counts. (length counts ≤ max_load_partitions) × (sum counts ≤ max_chunks)) counts_at field.Counts document (counts-read field.Counts)) (λ counts few.
    followed _ _ (required (number_at 1 max_threads) field.Threads document) _ (required-has (λ n. (1 ≤ n) × (n ≤ max_threads)) (number_at 1 max_threads) field.Threads document (number-between 1 max_threads field.Threads)) (λ threads some.
    followed _ _ (required rounds_at field.Rounds document) _ (required-has (All (All IsSlot)) rounds_at field.Rounds document (rounds-read field.Rounds)) (λ rounds slots.
    followed _ _ (required certificate_at field.Certificate document) _ (required-has IsNamed certificate_at field.Certificate document (certificate-read field.Certificate)) (λ certificate named.
    record { load = record { few_counts = few.0; few_chunks = few.1; some_thread = some.0; few_threads = some.1 }; rounds = slots; certificate = named })))))

pub claims-keep : (d : Data) (claim : Claim) → check_document_at d ≡ Ok claim → IsClaim claim
claims-keep d claim is = answer-has IsClaim (check_document_at d) claim (claim-read d) is

-- ---- the classes of a fault

known-by : (classes : List (List ℕ)) (found : Bool) (place : ℕ) → length classes ≤ max_classes → nat_lt place (length classes) ≡ found → IfOk (known_class (cond found (Some place) None)) (IsDeclared classes)
unfolding class_of
known-by classes true place few is =
    let lt : place < length classes = grind (arith, nat_tests) in
    rw (min-eq_left {n = place} {m = max_classes - 1} (omega (arith, lt, few))) lt
known-by classes false place few is = tt

class-read : (classes : List (List ℕ)) (name : List ℕ) → length classes ≤ max_classes → IfOk (class_named classes name) (IsDeclared classes)
class-read classes name few = known-by classes (nat_lt (position_or_len (bytes_eq name) classes) (length classes)) (position_or_len (bytes_eq name) classes) few refl

named-read : (classes : List (List ℕ)) → length classes ≤ max_classes → (f : Field) (d : Data) → IfOk (named_class_at classes f d) (IsDeclared classes)
unfolding named_class_at
named-read classes few f d = next _ (shaped f (as_str d)) _ (λ name. class-read classes name few)

shaky-read : (classes : List (List ℕ)) → length classes ≤ max_classes → (f : Field) (d : Data) → IfOk (shaky_classes_at classes f d) (AreShaky classes)
unfolding shaky_classes_at
shaky-read classes few f d = IfOk-weaker (list_at 1 max_entry_classes f d >>= each_at (λ _. named_class_at classes f)) _ _ (λ faults are. record { some = are.0.0; few = are.0.1; declared = are.1 }) (members-have (IsDeclared classes) (λ _. named_class_at classes f) 1 max_entry_classes f d (λ _. named-read classes few f))

kind-read : (classes : List (List ℕ)) → length classes ≤ max_classes → (f : Field) (form : FaultForm) → IfOk (fault_kind classes f form) (IsKind classes)
unfolding fault_kind
kind-read classes few f (bad name) = followed (IsDeclared classes) _ (class_named classes name) _ (class-read classes name few) (λ class is. is)
kind-read classes few f (shaky names) = followed (AreShaky classes) _ (shaky_classes_at classes f names) _ (shaky-read classes few f names) (λ faults are. are)

-- ---- the numbers of faults

abbrev pub number_of : PlannedFault → ℕ
number_of fault = fault.number

-- the number is past that of the last of the earlier ones
abbrev pub IsPast : List PlannedFault → ℕ → Type 0
IsPast earlier number = 0 < length earlier → get_or (map number_of earlier) (length earlier - 1) 0 < number

past-is : (earlier : List PlannedFault) (number : ℕ) → is_past (slice_get earlier (length earlier - 1)) number ≡ true → IsPast earlier number
past-is [] number past some = absurd (omega (arith, some))
past-is (e ∷ earlier) number past some =
    let last = length (e ∷ earlier) - 1 in
    let there = slice_get-get_or (e ∷ earlier) last e (omega arith) in
    let below : nat_lt (get_or (e ∷ earlier) last e).number number ≡ true = sym (ap (λ before. is_past before number) there) ∙ past in
    let same = get_or-map number_of (e ∷ earlier) last e 0 (omega arith) in
    omega (arith, same, ltb-true (get_or (e ∷ earlier) last e).number number below)

pub number-read : (f : Field) (records number : ℕ) (earlier : List PlannedFault) (past : Bool) → is_past (slice_get earlier (length earlier - 1)) number ≡ past → IfOk (fault_number f records earlier number) (λ n. IsPast earlier n × (n < records))
unfolding fault_number
number-read f records number earlier true past = rw past (in-range (λ n. IsPast earlier n × (n < records)) f (nat_lt number records) number (λ inside. (past-is earlier number past, ltb-true number records inside)))
number-read f records number earlier false past = rw past tt

past-there : (earlier : List PlannedFault) (number : ℕ) → IsPast earlier number → 0 < length (map number_of earlier) → get_or (map number_of earlier) (length (map number_of earlier) - 1) 0 < number
past-there earlier number past some =
    let long = length-map earlier number_of in
    rw long (past (omega (arith, long, some)))

-- one more number past the last one
rise-more : (xs : List ℕ) (y : ℕ) → IsStrictlyIncreasing xs → (0 < length xs → get_or xs (length xs - 1) 0 < y) → IsStrictlyIncreasing (xs ++ y ∷ [])
rise-more xs y rise past k lt =
    let long = length-append xs (y ∷ []) in
    elim (cases_lt (k + 1) (length xs)) [
      | inl inside ↦ omega (arith, get_or-append xs (y ∷ []) 0 k (omega (arith, inside)), get_or-append xs (y ∷ []) 0 (k + 1) inside, rise k inside)
      | inr end ↦
          let last : k + 1 ≡ length xs = omega (arith, end, lt, long) in
          let before = past (omega (arith, last)) in
          let same : get_or xs (length xs - 1) 0 ≡ get_or xs k 0 = ap (λ (i : ℕ). get_or xs i 0) (omega (arith, last)) in
          let here : get_or (xs ++ y ∷ []) (k + 1) 0 ≡ y = ap (λ (i : ℕ). get_or (xs ++ y ∷ []) i 0) last ∙ get_or-append_seam xs y [] 0 in
          omega (arith, get_or-append xs (y ∷ []) 0 k (omega (arith, last)), before, same, here)
    ]

-- ---- entries

abbrev HaveFaults : List (List ℕ) → ℕ → List PlannedFault → Type 0
HaveFaults classes records faults = IsStrictlyIncreasing (map number_of faults) × All (IsPlannedFault classes records) faults

fault-read : (classes : List (List ℕ)) → length classes ≤ max_classes → (f : Field) (records : ℕ) (earlier : List PlannedFault) (d : Data) → IfOk (planned_fault_at classes f records earlier d) (λ fault. IsPast earlier fault.number × IsPlannedFault classes records fault)
unfolding planned_fault_at
fault-read classes few f records earlier d =
    next _ (triple_at f d) _ (λ entry. next _ (shaped f (whole_number entry.0)) _ (λ number. next _ (shaped f (as_str entry.1)) _ (λ word. next _ (form_at f word entry.2) _ (λ form.
    followed (λ n. IsPast earlier n × (n < records)) _ (fault_number f records earlier number) _ (number-read f records number earlier (is_past (slice_get earlier (length earlier - 1)) number) refl) (λ place is.
    followed (IsKind classes) _ (fault_kind classes f form) _ (kind-read classes few f form) (λ kind are. (is.0, record { within = is.1; kind = are })))))))

one-fault : (classes : List (List ℕ)) (records : ℕ) (done : List PlannedFault) (fault : PlannedFault) → HaveFaults classes records done → IsPast done fault.number → IsPlannedFault classes records fault → HaveFaults classes records (done ++ fault ∷ [])
one-fault classes records done fault are past is = (
  rw (map-append number_of done (fault ∷ [])) (rise-more (map number_of done) fault.number are.0 (λ some. past-there done fault.number past some)),
  All-append (IsPlannedFault classes records) done (fault ∷ []) are.1 (All-cons (IsPlannedFault classes records) fault [] is (All-nil (IsPlannedFault classes records))),
)

none-rise : IsStrictlyIncreasing []
none-rise k lt = absurd (omega (arith, lt))

faults-read : (classes : List (List ℕ)) → length classes ≤ max_classes → (records : ℕ) (f : Field) (d : Data) → IfOk (planned_faults_at classes records f d) (AreFaults classes records)
unfolding planned_faults_at
faults-read classes few records f d = followed _ _ (list_at 0 max_entries f d) _ (list-between 0 max_entries f d) (λ items within.
    IfOk-weaker (each_at (planned_fault_at classes f records) items) _ _ (λ faults are. record { few = omega (arith, are.0, within.1); rise = are.1.0; each = are.1.1 })
    (both _ _ (each_at (planned_fault_at classes f records) items) (each-long (planned_fault_at classes f records) items)
    (each-keeps (HaveFaults classes records) (planned_fault_at classes f records) (λ done g are. IfOk-weaker (planned_fault_at classes f records done g) _ _ (λ fault is. one-fault classes records done fault are is.0 is.1) (fault-read classes few f records done g)) [] items (none-rise, All-nil (IsPlannedFault classes records)))))

no-entries : (classes : List (List ℕ)) (records : ℕ) → AreFaults classes records []
no-entries classes records = record { few = omega arith; rise = none-rise; each = All-nil (IsPlannedFault classes records) }

record AreStepFaults (classes : List (List ℕ)) (records : ℕ) (faults : StepFaults) : Type 0 where
  read : AreFaults classes records faults.read
  process : AreFaults classes records faults.process
  write : AreFaults classes records faults.write

step-faults-read : (classes : List (List ℕ)) → length classes ≤ max_classes → (records : ℕ) (f : Field) (d : Data) → IfOk (step_faults_at classes records f d) (AreStepFaults classes records)
unfolding step_faults_at
step-faults-read classes few records f d =
    let none = no-entries classes records in
    let each = faults-read classes few records in
    next _ (object_at f _ d) _ (λ faults.
    followed _ _ (optional (planned_faults_at classes records) [] field.Read faults) _ (optional-has (AreFaults classes records) (planned_faults_at classes records) [] field.Read faults none (each field.Read)) (λ reads read.
    followed _ _ (optional (planned_faults_at classes records) [] field.Process faults) _ (optional-has (AreFaults classes records) (planned_faults_at classes records) [] field.Process faults none (each field.Process)) (λ processes process.
    followed _ _ (optional (planned_faults_at classes records) [] field.Write faults) _ (optional-has (AreFaults classes records) (planned_faults_at classes records) [] field.Write faults none (each field.Write)) (λ writes write.
    record { read = read; process = process; write = write }))))

-- ---- the data of a step

abbrev pub IsRecord : List ℕ → Type 0
IsRecord text = length text ≤ max_record

records-read : (f : Field) (d : Data) → IfOk (records_at f d) (λ records. (length records ≤ max_records) × All IsRecord records)
unfolding records_at
records-read f d = IfOk-weaker (list_at 0 max_records f d >>= each_at (λ _. text_at 0 max_record f)) _ _ (λ records are. (are.0.1, are.1))
    (members-have IsRecord (λ _. text_at 0 max_record f) 0 max_records f d (λ _ g. IfOk-weaker (text_at 0 max_record f g) _ _ (λ s is. is.1) (text-between 0 max_record f g)))

abbrev IsDrop : Option (List ℕ) → Type 0
IsDrop drop = IfSome drop (λ text. (1 ≤ length text) × (length text ≤ max_affix))

drop-read : (f : Field) (d : Data) → IfOk (drop_at f d) IsDrop
unfolding drop_at
drop-read f d = followed _ _ (text_at 1 max_affix f d) _ (text-between 1 max_affix f d) (λ text is. is)

data-read : (classes : List (List ℕ)) → length classes ≤ max_classes → (d : Data) → IfOk (data_at classes d) (IsStepData classes)
unfolding data_at
data-read classes few d =
    next _ (object_at field.Data _ d) _ (λ fields.
    followed _ _ (required records_at field.Records fields) _ (required-has (λ records. (length records ≤ max_records) × All IsRecord records) records_at field.Records fields (records-read field.Records)) (λ records are.
    followed _ _ (optional (text_at 0 max_affix) [] field.Prefix fields) _ (optional-has (λ s. (0 ≤ length s) × (length s ≤ max_affix)) (text_at 0 max_affix) [] field.Prefix fields (omega arith, omega arith) (text-between 0 max_affix field.Prefix)) (λ prefix short.
    followed _ _ (optional drop_at None field.Drop fields) _ (optional-has IsDrop drop_at None field.Drop fields tt (drop-read field.Drop)) (λ drop dropped.
    followed _ _ (optional (step_faults_at classes (length records)) no_faults field.Faults fields) _ (optional-has (AreStepFaults classes (length records)) (step_faults_at classes (length records)) no_faults field.Faults fields (record { read = no-entries classes (length records); process = no-entries classes (length records); write = no-entries classes (length records) }) (step-faults-read classes few (length records) field.Faults)) (λ faults planned.
    record {
      few_records = are.0;
      short_records = are.1;
      short_prefix = short.1;
      some_drop = IfSome_then drop dropped (λ text is. is.0);
      short_drop = IfSome_then drop dropped (λ text is. is.1);
      read = planned.read;
      process = planned.process;
      write = planned.write;
    })))))

-- ---- the document of `run`

pub list-read : (job : Job) → IsJob job → (f : Field) (d : Data) → IfOk (data_list_at job f d) (λ steps. (length steps ≡ length job.steps) × All (IsStepData job.classes) steps)
unfolding data_list_at
list-read job kept f d = next _ (shaped f (as_array d)) _ (λ items. if-so _ (items_len items == length job.steps) _ _ (λ so.
    both _ _ (each_at (λ _. data_at job.classes) items)
    (IfOk-weaker (each_at (λ _. data_at job.classes) items) _ _ (λ steps long. long ∙ eqb-true (items_len items) (length job.steps) so) (each-long (λ _. data_at job.classes) items))
    (each-has (IsStepData job.classes) (λ _. data_at job.classes) (λ _. data-read job.classes kept.classes.few) items)))

document-read : JobsKeepRanges → (d : Data) → IfOk (document_at d) IsRunDocument
unfolding document_at
document-read law d =
    next _ (object_at field.Unknown _ d) _ (λ document.
    followed _ _ (required (λ _. job_at) field.Job document) _ (required-has IsJob (λ _. job_at) field.Job document (λ g. if-read IsJob (job_at g) (law g))) (λ job kept.
    followed _ _ (required (data_list_at job) field.Data document) _ (required-has (λ steps. (length steps ≡ length job.steps) × All (IsStepData job.classes) steps) (data_list_at job) field.Data document (list-read job kept field.Data)) (λ steps are.
    record { job = kept; one_each = are.0; each = are.1 })))

pub documents-keep : JobsKeepRanges → (d : Data) (document : Document) → document_at d ≡ Ok document → IsRunDocument document
documents-keep law d document is = answer-has IsRunDocument (document_at d) document (document-read law d) is
