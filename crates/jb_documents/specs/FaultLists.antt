-- The faults that a document plans for a step's artifacts (own choice): for each artifact a list of entries, one for a
-- record whose call fails, `[number,"bad",class]` or `[number,"shaky",[class,..]]`.
use Rattle.std.specs.Prelude.{ℕ, ◌-◌, List, [], ◌∷◌, length, codes, bytes_eq, position, slice_get, nat_lt, Bool, true, Option, Some, None, Ok, Err, if◌then◌else◌}
use Rattle.serde_json.specs.Data.{Data}
use Rattle.serde_json.specs.Find.{as_array, as_str}
use Rattle.jb_job.specs.declared.field.Field.{Field}
use Rattle.jb_job.specs.declared.field.Field.TheVariants as field
use Rattle.jb_base.specs.declared.class.ClassId.{ClassId}
use Rattle.jb_job.specs.Reading.{wrong_shape, unknown_class, Read, ◌>>=◌, shaped, ranged, whole_number, object_at, list_at, triple_at, each_at, optional}
use Rattle.jb_base.specs.Classes.{class_of}
use Rattle.jb_base.specs.Limits.{max_entries, max_entry_classes}
use Rattle.jb_documents.specs.declared.run.faults.FaultKind.{FaultKind}
use Rattle.jb_documents.specs.declared.run.faults.FaultKind.TheVariants.{Bad, Shaky}
use Rattle.jb_documents.specs.declared.run.faults.PlannedFault.{PlannedFault}
use Rattle.jb_documents.specs.declared.run.faults.StepFaults.{StepFaults}

-- ---- the form of an entry

-- what follows the word: the name of a class, or the list of their names
pub data FaultForm : Type 0 where
  bad : (name : List ℕ) → FaultForm
  shaky : (names : Data) → FaultForm

unfoldable pub form_at : Field → (word : List ℕ) → Data → Read FaultForm
form_at f word d =
    if bytes_eq word (codes "bad") then shaped f (as_str d) >>= (λ name. Ok (bad name))
    else (if bytes_eq word (codes "shaky") then shaped f (as_array d) >>= (λ _. Ok (shaky d)) else Err (wrong_shape f))

-- ---- the number of an entry

-- The numbers rise.
abbrev pub is_past : (before : Option PlannedFault) → (number : ℕ) → Bool
is_past None number = true
is_past (Some before) number = nat_lt before.number number

-- past that of the entry before it, and that of one of so many records
unfoldable pub fault_number : Field → (records : ℕ) → (earlier : List PlannedFault) → (number : ℕ) → Read ℕ
fault_number f records earlier number =
    if is_past (slice_get earlier (length earlier - 1)) number then ranged f (nat_lt number records) number else Err (wrong_shape f)

-- ---- the classes of an entry

abbrev pub known_class : (place : Option ℕ) → Read ClassId
known_class None = Err unknown_class
known_class (Some place) = Ok (class_of place)

-- The number of a class is its place among the job's.
abbrev pub class_named : (classes : List (List ℕ)) → (name : List ℕ) → Read ClassId
class_named classes name = known_class (position (bytes_eq name) classes)

unfoldable pub named_class_at : (classes : List (List ℕ)) → Field → Data → Read ClassId
named_class_at classes f d = shaped f (as_str d) >>= class_named classes

unfoldable pub shaky_classes_at : (classes : List (List ℕ)) → Field → Data → Read (List ClassId)
shaky_classes_at classes f d = list_at 1 max_entry_classes f d >>= each_at (λ _. named_class_at classes f)

unfoldable pub fault_kind : (classes : List (List ℕ)) → Field → FaultForm → Read FaultKind
fault_kind classes f (bad name) = class_named classes name >>= λ class. Ok (Bad class)
fault_kind classes f (shaky names) = shaky_classes_at classes f names >>= λ faults. Ok (Shaky faults)

-- ---- entries

-- An entry after the earlier ones: its form comes first, then its number, then its classes.
unfoldable pub planned_fault_at : (classes : List (List ℕ)) → Field → (records : ℕ) → (earlier : List PlannedFault) → Data → Read PlannedFault
planned_fault_at classes f records earlier d = do
  entry ← triple_at f d
  number ← shaped f (whole_number entry.0)
  word ← shaped f (as_str entry.1)
  form ← form_at f word entry.2
  place ← fault_number f records earlier number
  kind ← fault_kind classes f form
  Ok (record { number = place; kind = kind })

unfoldable pub planned_faults_at : (classes : List (List ℕ)) → (records : ℕ) → Field → Data → Read (List PlannedFault)
planned_faults_at classes records f d = list_at 0 max_entries f d >>= each_at (planned_fault_at classes f records)

abbrev pub no_faults : StepFaults
no_faults = record { read = []; process = []; write = [] }

-- the faults of a step with so many records
unfoldable pub step_faults_at : (classes : List (List ℕ)) → (records : ℕ) → Field → Data → Read StepFaults
step_faults_at classes records f d = do
  faults ← object_at f (field.Read ∷ field.Process ∷ field.Write ∷ []) d
  reads ← optional (planned_faults_at classes records) [] field.Read faults
  processes ← optional (planned_faults_at classes records) [] field.Process faults
  writes ← optional (planned_faults_at classes records) [] field.Write faults
  Ok (record { read = reads; process = processes; write = writes })
