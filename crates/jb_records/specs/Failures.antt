-- With which fault each failed partition failed.
use Rattle.std.specs.Prelude.{ℕ, ◌≡◌, ◌+◌, ◌-◌, ◌≤◌, ◌<◌, ◌⊎◌, nat_eq, if◌then◌else◌, List, [], ◌∷◌, length, slice_get, Option, None, Some, Contains, IfSome, filter}
use Rattle.std.specs.List.{enumerate_from}
use Rattle.jb_base.specs.Pairwise.{Pairwise}
use Rattle.jb_base.specs.Rules.{RulesRecord}
use Rattle.jb_base.specs.declared.class.ClassId.{ClassId}
use Rattle.jb_chunk.specs.Block.{choice_at}
use Rattle.jb_ready.specs.declared.notes.Note.{Note}
use Rattle.jb_ready.specs.Notes.{NotesRecord}
use Rattle.jb_rules.specs.declared.choice.Choice.{Choice}
use Rattle.jb_rules.specs.declared.choice.Choice.TheVariants.{Skip, Fail}
use Rattle.jb_rules.specs.declared.row.Row.{Row}
use Rattle.jb_rules.specs.Rows.{row_block, skips_of}
use Rattle.jb_rules.specs.States.{is_failed}
use Rattle.jb_records.specs.declared.failures.FailedPartition.{FailedPartition}
use Rattle.jb_records.specs.Function.{Function, refusal_of, tries_of}
use Rattle.jb_records.specs.Artifacts.{record_of}
use Rattle.jb_records.specs.Skips.{skips_between}

-- the partitions that failed, rising, with their rows
abbrev pub failed_rows : List Row → List (ℕ × Row)
failed_rows rows = filter (λ n. is_failed n.1.state) (enumerate_from 0 rows)

-- the record is refused, and this is the class of that; or it isn't, and a first try at it fails with this class
abbrev pub IsFaultOf : Function → (bytes : List ℕ) → ClassId → Type 0
IsFaultOf f bytes class = (refusal_of f bytes ≡ Some class) ⊎ (refusal_of f bytes ≡ None) × Contains (tries_of f bytes) class

-- What becomes of a fault of this class at record `k`, in an attempt that begins at the row's next record. The skips before it are those of
-- committed chunks, and those of the attempt's earlier records that are refused: no fault of a first try is skipped.
abbrev pub choice_for : Function → RulesRecord → (records : List (List ℕ)) → Row → (k : ℕ) → ClassId → Choice
choice_for f rules records row k class = choice_at rules row class (skips_of row + length (skips_between f records row.at k))

-- each record from the row's next one to `end` - 1 that is refused is skipped
abbrev pub AreSkipped : Function → RulesRecord → (records : List (List ℕ)) → Row → (end : ℕ) → Type 0
AreSkipped f rules records row end =
    (k : ℕ) (class : ClassId) → row.at ≤ k → k < end → refusal_of f (record_of 0 records k) ≡ Some class → choice_for f rules records row k class ≡ Skip

-- THE FAULT ENDED THE LAST ATTEMPT, at the row's next chunk: the faults before it in this chunk are skipped, and the partition fails by this one
pub record EndsAttempt (f : Function) (rules : RulesRecord) (item_count : ℕ) (records : List (List ℕ)) (row : Row) (note : Note) : Type 0 where
  pub chunk : note.number < (row_block item_count row).hi
  pub first : AreSkipped f rules records row note.number
  pub fails : choice_for f rules records row note.number note.class ≡ Fail

-- it is the fault of a record of the partition that isn't committed, and ended the last attempt
pub record IsFaultIn (f : Function) (rules : RulesRecord) (item_count : ℕ) (records : List (List ℕ)) (row : Row) (note : Note) : Type 0 where
  pub from : row.at ≤ note.number
  pub to : note.number < row.hi
  pub fault : IsFaultOf f (record_of 0 records note.number) note.class
  pub ends : EndsAttempt f rules item_count records row note

pub record IsFailure (f : Function) (rules : RulesRecord) (item_count : ℕ) (records : List (List ℕ)) (n : ℕ × Row) (failure : FailedPartition) : Type 0 where
  pub partition : failure.partition ≡ n.0
  pub fault : IfSome failure.fault (IsFaultIn f rules item_count records n.1)

-- THE FAILED PARTITIONS of a step with these rules and chunks of so many records, each with its fault, if that is known
abbrev pub AreFailures : Function → RulesRecord → (item_count : ℕ) → (records : List (List ℕ)) → List Row → List FailedPartition → Type 0
AreFailures f rules item_count records rows failures = Pairwise (IsFailure f rules item_count records) (failed_rows rows) failures

-- ---- THE FAULT THAT WAS MET LAST

-- the last one of these notes, if none was lost
abbrev pub last_fault : NotesRecord → Option Note
last_fault notes = if nat_eq notes.lost 0 then slice_get notes.kept (length notes.kept - 1) else None

-- that of the partition of this number
abbrev pub fault_noted : {A : Type 0} → List (ℕ × A) → (partition : ℕ) → (notes : A → NotesRecord) → Option Note
fault_noted [] partition notes = None
fault_noted (a ∷ others) partition notes = if nat_eq a.0 partition then last_fault (notes a.1) else fault_noted others partition notes
