-- The tree of a document is read as the document.
use Rattle.std.proofs.Common.{◌≡◌, ℕ, ◌+◌, ◌-◌, ◌≤◌, ◌<◌, true, List, [], ◌∷◌, ◌++◌, length, get_or, map, sum, Option, Some, None, Ok, All, refl, sym, ap, subst, ◌∙◌, arith, length-append}
use Rattle.std.specs.Prelude.{slice_get}
use Rattle.std.specs.List.Sorted.{IsStrictlyIncreasing}
use Rattle.std.proofs.lemmas.Bool.{eq-eqb, le-leb, lt-ltb}
use Rattle.std.proofs.lemmas.List.{get_or-map, length-map, map-append, map-id}
use Rattle.std.proofs.lemmas.List.Sums.{sum_by-append}
use Rattle.std.proofs.lemmas.Option.{slice_get-get_or}
use Rattle.std.proofs.Math.ListN.{get_or-append}
use Rattle.std.proofs.Math.Seq.{get_or-append_seam}
use Rattle.serde_json.specs.Data.{Data, string}
use Rattle.serde_json.specs.Events.{items_len}
use Rattle.serde_json.specs.Find.{get}
use Rattle.serde_json.specs.View.{items_of}
use Rattle.jb_base.proofs.Causes.{answer-has}
use Rattle.jb_base.specs.declared.class.ClassId.{ClassId}
use Rattle.jb_job.specs.declared.field.Field.{Field}
use Rattle.jb_job.specs.declared.field.Field.TheVariants as field
use Rattle.jb_job.specs.declared.job.Job.{Job}
use Rattle.jb_job.specs.JobRanges.{AreClasses, IsJob}
use Rattle.jb_job.specs.JobRecord.{job_at}
use Rattle.jb_job.specs.JobTree.{number_tree, list_tree, job_tree}
use Rattle.jb_job.specs.Laws.{JobsHaveTrees}
use Rattle.jb_base.specs.Limits.{max_records, max_record, max_affix, max_entries, max_entry_classes, max_place, max_load_partitions, max_chunks, max_threads}
use Rattle.jb_job.specs.Names.{name_of}
use Rattle.jb_job.specs.Reading.{list_at, text_at, number_at, triple_at, object_at, required, optional, each_at}
use Rattle.jb_job.proofs.FieldRanges.{each-long}
use Rattle.jb_job.proofs.FieldTrees.{then-ok, text-back, number-back, list-back, required-back, optional-back, optional-none, each-back, member-has}
use Rattle.jb_job.proofs.JobTrees.{place-found}
use Rattle.jb_cert.specs.declared.certificates.Certificate.{Certificate}
use Rattle.jb_cert.specs.declared.certificates.Certificate.TheVariants.{Nothing, Longest, FullLoad}
use Rattle.jb_cert.specs.declared.plans.Slot.{Slot}
use Rattle.jb_cert.specs.Load.{Load, IsWithinLimits}
use Rattle.jb_documents.specs.CheckDocument.{Claim, slot_at, round_at, rounds_at, certificate_at, check_document_at}
use Rattle.jb_documents.specs.declared.run.document.Document.{Document}
use Rattle.jb_documents.specs.declared.run.faults.FaultKind.{FaultKind}
use Rattle.jb_documents.specs.declared.run.faults.FaultKind.TheVariants.{Bad, Shaky}
use Rattle.jb_documents.specs.declared.run.faults.PlannedFault.{PlannedFault}
use Rattle.jb_documents.specs.declared.run.faults.StepFaults.{StepFaults}
use Rattle.jb_documents.specs.declared.run.step_data.StepData.{StepData}
use Rattle.jb_documents.specs.DocumentRanges.{IsDeclared, AreShaky, IsKind, IsPlannedFault, AreFaults, IsStepData, IsRunDocument, IsSlot, IsNamed, IsClaim}
use Rattle.jb_documents.specs.DocumentTrees.{load_tree, slot_tree, round_tree, certificate_tree, claim_tree, class_tree, fault_tree, faults_tree, step_faults_tree, data_tree, document_tree}
use Rattle.jb_documents.specs.FaultLists.{form_at, is_past, fault_number, known_class, class_named, named_class_at, shaky_classes_at, fault_kind, planned_fault_at, planned_faults_at, no_faults, step_faults_at}
use Rattle.jb_documents.specs.PlanDocument.{counts_at, plan_document_at}
use Rattle.jb_documents.specs.RunDocument.{data_list_at, document_at}
use Rattle.jb_documents.specs.StepFields.{records_at, drop_at, data_at}
use Rattle.jb_base.proofs.Classes.{class_of-number}
use Rattle.jb_documents.proofs.DocumentRanges.{number_of, IsPast, IsRecord}

-- ---- the document of `plan`

part-most : (counts done : List ℕ) (n : ℕ) (rest : List ℕ) → done ++ n ∷ rest ≡ counts → n ≤ sum counts
part-most counts done n rest is =
    let parts : sum (done ++ n ∷ rest) ≡ sum done + sum (n ∷ rest) = sum_by-append (λ (m : ℕ). m) done (n ∷ rest) in
    let first : sum (n ∷ rest) ≡ sum (n ∷ []) + sum rest = sum_by-append (λ (m : ℕ). m) (n ∷ []) rest in
    let one : sum (n ∷ []) ≡ n = omega arith in
    subst (λ (all : List ℕ). n ≤ sum all) is (omega (arith, parts, first, one))

counts-back : (f : Field) (counts : List ℕ) → length counts ≤ max_load_partitions → sum counts ≤ max_chunks → counts_at f (list_tree (map number_tree counts)) ≡ Ok counts
unfolding counts_at
counts-back f counts few most =
    then-ok (list_at 0 max_load_partitions f (list_tree (map number_tree counts))) (items_of (map number_tree counts)) _ counts
    (list-back 0 max_load_partitions f (map number_tree counts) (omega arith) (omega (arith, length-map counts number_tree, few)))
    (then-ok (each_at (λ _. number_at 0 max_chunks f) (items_of (map number_tree counts))) counts _ counts
    (each-back (λ _. number_at 0 max_chunks f) number_tree (λ n. n) counts (λ done n rest is. number-back 0 max_chunks f n (omega arith) (omega (arith, part-most counts done n rest is, most))) ∙ ap Ok (map-id counts))
    (rw (le-leb (sum counts) max_chunks most) refl))

pub load-back : (load : Load) → IsWithinLimits load.counts load.threads → plan_document_at (load_tree load) ≡ Ok load
unfolding plan_document_at object_at
load-back load kept =
    let d = load_tree load in
    then-ok (required counts_at field.Counts d) load.counts _ load (required-back counts_at field.Counts d (list_tree (map number_tree load.counts)) load.counts refl (counts-back field.Counts load.counts kept.few_counts kept.few_chunks))
    (then-ok (required (number_at 1 max_threads) field.Threads d) load.threads _ load (required-back (number_at 1 max_threads) field.Threads d (number_tree load.threads) load.threads refl (number-back 1 max_threads field.Threads load.threads kept.some_thread kept.few_threads))
    refl)

-- ---- the document of `check`

slot-back : (f : Field) (slot : Slot) → IsSlot slot → slot_at f (slot_tree slot) ≡ Ok slot
unfolding slot_at triple_at
slot-back f slot is = rw (le-leb slot.lane max_place is.lane, le-leb slot.partition max_place is.partition) refl

round-back : (f : Field) (round : List Slot) → All IsSlot round → round_at f (round_tree round) ≡ Ok round
unfolding round_at
round-back f round slots = each-back (λ _. slot_at f) slot_tree (λ slot. slot) round (λ done slot rest is. slot-back f slot (member-has IsSlot round done slot rest slots is)) ∙ ap Ok (map-id round)

rounds-back : (f : Field) (rounds : List (List Slot)) → All (All IsSlot) rounds → rounds_at f (list_tree (map round_tree rounds)) ≡ Ok rounds
unfolding rounds_at
rounds-back f rounds slots = each-back (λ _. round_at f) round_tree (λ round. round) rounds (λ done round rest is. round-back f round (member-has (All IsSlot) rounds done round rest slots is)) ∙ ap Ok (map-id rounds)

certificate-back : (f : Field) (certificate : Certificate) → IsNamed certificate → certificate_at f (certificate_tree certificate) ≡ Ok certificate
unfolding certificate_at
certificate-back f Nothing named = refl
certificate-back f (Longest partition) named = then-ok (number_at 0 max_place f (number_tree partition)) partition _ (Longest partition) (number-back 0 max_place f partition (omega arith) named) refl
certificate-back f FullLoad named = refl

pub claim-back : (claim : Claim) → IsClaim claim → check_document_at (claim_tree claim) ≡ Ok claim
unfolding check_document_at object_at
claim-back claim kept =
    let d = claim_tree claim in
    then-ok (required counts_at field.Counts d) claim.counts _ claim (required-back counts_at field.Counts d (list_tree (map number_tree claim.counts)) claim.counts refl (counts-back field.Counts claim.counts kept.load.few_counts kept.load.few_chunks))
    (then-ok (required (number_at 1 max_threads) field.Threads d) claim.threads _ claim (required-back (number_at 1 max_threads) field.Threads d (number_tree claim.threads) claim.threads refl (number-back 1 max_threads field.Threads claim.threads kept.load.some_thread kept.load.few_threads))
    (then-ok (required rounds_at field.Rounds d) claim.rounds _ claim (required-back rounds_at field.Rounds d (list_tree (map round_tree claim.rounds)) claim.rounds refl (rounds-back field.Rounds claim.rounds kept.rounds))
    (then-ok (required certificate_at field.Certificate d) claim.certificate _ claim (required-back certificate_at field.Certificate d (certificate_tree claim.certificate) claim.certificate refl (certificate-back field.Certificate claim.certificate kept.certificate))
    refl)))

-- ---- classes and numbers of faults

class-back : (classes : List (List ℕ)) → AreClasses classes → (class : ClassId) → IsDeclared classes class → class_named classes (get_or classes class.number []) ≡ Ok class
class-back classes are class declared = ap known_class (place-found classes class.number [] are.once declared) ∙ ap Ok (class_of-number class)

named-back : (classes : List (List ℕ)) → AreClasses classes → (f : Field) (class : ClassId) → IsDeclared classes class → named_class_at classes f (class_tree classes class) ≡ Ok class
unfolding named_class_at
named-back classes are f class declared = class-back classes are class declared

shaky-back : (classes : List (List ℕ)) → AreClasses classes → (f : Field) (faults : List ClassId) → AreShaky classes faults → shaky_classes_at classes f (list_tree (map (class_tree classes) faults)) ≡ Ok faults
unfolding shaky_classes_at
shaky-back classes are f faults kept =
    let tree = class_tree classes in
    then-ok (list_at 1 max_entry_classes f (list_tree (map tree faults))) (items_of (map tree faults)) (each_at (λ _. named_class_at classes f)) faults
    (list-back 1 max_entry_classes f (map tree faults) (omega (arith, length-map faults tree, kept.some)) (omega (arith, length-map faults tree, kept.few)))
    (each-back (λ _. named_class_at classes f) tree (λ class. class) faults (λ done class rest is. named-back classes are f class (member-has (IsDeclared classes) faults done class rest kept.declared is)) ∙ ap Ok (map-id faults))

-- the numbers rise: each is past the one before it
last-below : (xs : List ℕ) (y : ℕ) (rest : List ℕ) → IsStrictlyIncreasing (xs ++ y ∷ rest) → 0 < length xs → get_or xs (length xs - 1) 0 < y
last-below xs y rest rise some =
    let last = length xs - 1 in
    let long = length-append xs (y ∷ rest) in
    let below = rise last (omega (arith, long, some)) in
    let here : get_or (xs ++ y ∷ rest) (last + 1) 0 ≡ y = ap (λ (i : ℕ). get_or (xs ++ y ∷ rest) i 0) (omega (arith, some)) ∙ get_or-append_seam xs y rest 0 in
    omega (arith, get_or-append xs (y ∷ rest) 0 last (omega (arith, some)), below, here)

is-past : (earlier : List PlannedFault) (number : ℕ) → IsPast earlier number → is_past (slice_get earlier (length earlier - 1)) number ≡ true
is-past [] number past = refl
is-past (e ∷ earlier) number past =
    let last = length (e ∷ earlier) - 1 in
    let there = slice_get-get_or (e ∷ earlier) last e (omega arith) in
    let same = get_or-map number_of (e ∷ earlier) last e 0 (omega arith) in
    let below : get_or (map number_of (e ∷ earlier)) last 0 < number = past (omega arith) in
    ap (λ before. is_past before number) there ∙ lt-ltb (get_or (e ∷ earlier) last e).number number (omega (arith, same, below))

number-is-past : (all done : List PlannedFault) (fault : PlannedFault) (rest : List PlannedFault) → IsStrictlyIncreasing (map number_of all) → done ++ fault ∷ rest ≡ all → IsPast done fault.number
number-is-past all done fault rest rise is some =
    let long = length-map done number_of in
    let numbers : IsStrictlyIncreasing (map number_of done ++ fault.number ∷ map number_of rest) = subst IsStrictlyIncreasing (map-append number_of done (fault ∷ rest)) (subst (λ (faults : List PlannedFault). IsStrictlyIncreasing (map number_of faults)) (sym is) rise) in
    subst (λ (n : ℕ). get_or (map number_of done) (n - 1) 0 < fault.number) long (last-below (map number_of done) fault.number (map number_of rest) numbers (omega (arith, long, some)))

place-back : (f : Field) (records : ℕ) (earlier : List PlannedFault) (number : ℕ) → is_past (slice_get earlier (length earlier - 1)) number ≡ true → number < records → fault_number f records earlier number ≡ Ok number
unfolding fault_number
place-back f records earlier number past within = rw (past, lt-ltb number records within) refl

-- ---- entries

fault-by : (classes : List (List ℕ)) → AreClasses classes → (f : Field) (records : ℕ) (earlier : List PlannedFault) (number : ℕ) (kind : FaultKind) → number < records → IsKind classes kind → is_past (slice_get earlier (length earlier - 1)) number ≡ true
    → planned_fault_at classes f records earlier (fault_tree classes (record { number = number; kind = kind })) ≡ Ok (record { number = number; kind = kind })
unfolding planned_fault_at triple_at form_at fault_kind
fault-by classes are f records earlier number (Bad class) within declared past =
    let fault : PlannedFault = record { number = number; kind = Bad class } in
    then-ok (fault_number f records earlier number) number _ fault (place-back f records earlier number past within)
    (rw (class-back classes are class declared) refl)
fault-by classes are f records earlier number (Shaky faults) within kept past =
    let fault : PlannedFault = record { number = number; kind = Shaky faults } in
    then-ok (fault_number f records earlier number) number _ fault (place-back f records earlier number past within)
    (rw (shaky-back classes are f faults kept) refl)

faults-back : (classes : List (List ℕ)) → AreClasses classes → (records : ℕ) (f : Field) (faults : List PlannedFault) → AreFaults classes records faults → planned_faults_at classes records f (faults_tree classes faults) ≡ Ok faults
unfolding planned_faults_at
faults-back classes are records f faults kept =
    let tree = fault_tree classes in
    then-ok (list_at 0 max_entries f (list_tree (map tree faults))) (items_of (map tree faults)) (each_at (planned_fault_at classes f records)) faults
    (list-back 0 max_entries f (map tree faults) (omega arith) (omega (arith, length-map faults tree, kept.few)))
    (each-back (planned_fault_at classes f records) tree (λ fault. fault) faults (λ done fault rest is.
    let one = member-has (IsPlannedFault classes records) faults done fault rest kept.each is in
    subst (λ (earlier : List PlannedFault). planned_fault_at classes f records earlier (tree fault) ≡ Ok fault) (sym (map-id done))
    (fault-by classes are f records done fault.number fault.kind one.within one.kind (is-past done fault.number (number-is-past faults done fault rest kept.rise is))))
    ∙ ap Ok (map-id faults))

step-faults-back : (classes : List (List ℕ)) → AreClasses classes → (records : ℕ) (f : Field) (faults : StepFaults) → AreFaults classes records faults.read → AreFaults classes records faults.process → AreFaults classes records faults.write → step_faults_at classes records f (step_faults_tree classes faults) ≡ Ok faults
unfolding step_faults_at object_at
step-faults-back classes are records f faults read process write =
    let d = step_faults_tree classes faults in
    let kind = planned_faults_at classes records in
    then-ok (optional kind [] field.Read d) faults.read _ faults (optional-back kind [] field.Read d (faults_tree classes faults.read) faults.read refl (faults-back classes are records field.Read faults.read read))
    (then-ok (optional kind [] field.Process d) faults.process _ faults (optional-back kind [] field.Process d (faults_tree classes faults.process) faults.process refl (faults-back classes are records field.Process faults.process process))
    (then-ok (optional kind [] field.Write d) faults.write _ faults (optional-back kind [] field.Write d (faults_tree classes faults.write) faults.write refl (faults-back classes are records field.Write faults.write write))
    refl))

-- ---- the data of a step

records-back : (f : Field) (records : List (List ℕ)) → length records ≤ max_records → All IsRecord records → records_at f (list_tree (map string records)) ≡ Ok records
unfolding records_at
records-back f records few short =
    then-ok (list_at 0 max_records f (list_tree (map string records))) (items_of (map string records)) (each_at (λ _. text_at 0 max_record f)) records
    (list-back 0 max_records f (map string records) (omega arith) (omega (arith, length-map records string, few)))
    (each-back (λ _. text_at 0 max_record f) string (λ text. text) records (λ done text rest is. text-back 0 max_record f text (omega arith) (member-has IsRecord records done text rest short is)) ∙ ap Ok (map-id records))

drop-back : (f : Field) (text : List ℕ) → 1 ≤ length text → length text ≤ max_affix → drop_at f (string text) ≡ Ok (Some text)
unfolding drop_at
drop-back f text some short = then-ok (text_at 1 max_affix f (string text)) text _ (Some text) (text-back 1 max_affix f text some short) refl

abbrev data_keys : List Field
data_keys = field.Records ∷ field.Prefix ∷ field.Drop ∷ field.Faults ∷ []

-- an object that has these values, and this beginning of filtered items
data-of : (classes : List (List ℕ)) (d : Data) (given : StepData) → AreClasses classes → IsStepData classes given
    → object_at field.Data data_keys d ≡ Ok d
    → get (name_of field.Records) d ≡ Some (list_tree (map string given.records))
    → get (name_of field.Prefix) d ≡ Some (string given.prefix)
    → optional drop_at None field.Drop d ≡ Ok given.drop
    → get (name_of field.Faults) d ≡ Some (step_faults_tree classes given.faults)
    → data_at classes d ≡ Ok given
unfolding data_at
data-of classes d given are kept keys records prefix drop faults =
    let kind = step_faults_at classes (length given.records) in
    then-ok (object_at field.Data data_keys d) d _ given keys
    (then-ok (required records_at field.Records d) given.records _ given (required-back records_at field.Records d (list_tree (map string given.records)) given.records records (records-back field.Records given.records kept.few_records kept.short_records))
    (then-ok (optional (text_at 0 max_affix) [] field.Prefix d) given.prefix _ given (optional-back (text_at 0 max_affix) [] field.Prefix d (string given.prefix) given.prefix prefix (text-back 0 max_affix field.Prefix given.prefix (omega arith) kept.short_prefix))
    (then-ok (optional drop_at None field.Drop d) given.drop _ given drop
    (then-ok (optional kind no_faults field.Faults d) given.faults _ given (optional-back kind no_faults field.Faults d (step_faults_tree classes given.faults) given.faults faults (step-faults-back classes are (length given.records) field.Faults given.faults kept.read kept.process kept.write))
    refl))))

data-by : (classes : List (List ℕ)) (records : List (List ℕ)) (prefix : List ℕ) (drop : Option (List ℕ)) (faults : StepFaults) → AreClasses classes
    → IsStepData classes (record { records = records; prefix = prefix; drop = drop; faults = faults })
    → data_at classes (data_tree classes (record { records = records; prefix = prefix; drop = drop; faults = faults })) ≡ Ok (record { records = records; prefix = prefix; drop = drop; faults = faults })
unfolding object_at
data-by classes records prefix None faults are kept =
    data-of classes _ (record { records = records; prefix = prefix; drop = None; faults = faults }) are kept refl refl refl (optional-none drop_at None field.Drop _ refl) refl
data-by classes records prefix (Some text) faults are kept =
    data-of classes _ (record { records = records; prefix = prefix; drop = Some text; faults = faults }) are kept refl refl refl (optional-back drop_at None field.Drop _ (string text) (Some text) refl (drop-back field.Drop text kept.some_drop kept.short_drop)) refl

data-back : (classes : List (List ℕ)) (given : StepData) → AreClasses classes → IsStepData classes given → data_at classes (data_tree classes given) ≡ Ok given
data-back classes given are kept = data-by classes given.records given.prefix given.drop given.faults are kept

-- ---- the document of `run`

pub list-back-data : (job : Job) → IsJob job → (f : Field) (steps : List StepData) → length steps ≡ length job.steps → All (IsStepData job.classes) steps → data_list_at job f (list_tree (map (data_tree job.classes) steps)) ≡ Ok steps
unfolding data_list_at
list-back-data job kept f steps many each =
    let items = items_of (map (data_tree job.classes) steps) in
    let is = each-back (λ _. data_at job.classes) (data_tree job.classes) (λ given. given) steps (λ done given rest is. data-back job.classes given kept.classes (member-has (IsStepData job.classes) steps done given rest each is)) ∙ ap Ok (map-id steps) in
    let long : length steps ≡ items_len items = answer-has (λ (found : List StepData). length found ≡ items_len items) (each_at (λ _. data_at job.classes) items) steps (each-long (λ _. data_at job.classes) items) is in
    rw (eq-eqb (items_len items) (length job.steps) (sym long ∙ many)) is

pub document-back : JobsHaveTrees → (document : Document) → IsRunDocument document → document_at (document_tree document) ≡ Ok document
unfolding document_at object_at
document-back law document kept =
    let d = document_tree document in
    let job = document.job in
    then-ok (required (λ _. job_at) field.Job d) job _ document (required-back (λ _. job_at) field.Job d (job_tree job) job refl (law job kept.job))
    (then-ok (required (data_list_at job) field.Data d) document.step_data _ document (required-back (data_list_at job) field.Data d (list_tree (map (data_tree job.classes) document.step_data)) document.step_data refl (list-back-data job kept.job field.Data document.step_data kept.one_each kept.each))
    refl)
