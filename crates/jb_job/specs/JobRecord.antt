-- The Job that a JSON tree describes, or its first fault. Each object of the record has one table. The table's first line
-- lists the object's keys. Its next lines are the fields, in the order in which their faults count.
--
-- The keys are those of the job specification language of Jakarta Batch 2.1 ("Chunk", "Skipping Exceptions", "Retrying
-- Exceptions", "Partition Plan"). Own choices: the form (JSON, and the order of faults), the keys `exception-classes`,
-- `ranges` and `override`, and every limit.
use Rattle.std.specs.Prelude.{ℕ, ◌&&◌, Bool, true, false, not, position, fold, codes, is_some, nat_le, bit_and, bit_or, ◌^◌, ◌-◌, List, [], ◌∷◌, ◌++◌, Option, Some, None, Ok, Err, if◌then◌else◌, bytes_eq}
use Rattle.std.specs.List.{list_any}
use Rattle.std.specs.Int.{w64, bit_not}
use Rattle.serde_json.specs.Data.{Data}
use Rattle.serde_json.specs.Find.{get, as_str}
use Rattle.jb_job.specs.declared.field.Field.{Field}
use Rattle.jb_job.specs.declared.field.Field.TheVariants as field
use Rattle.jb_base.specs.declared.range.Range.{Range}
use Rattle.jb_job.specs.declared.job.Job.{Job}
use Rattle.jb_base.specs.Limits.{max_steps, max_name, max_classes, max_class_names, max_item_count, default_item_count, max_skip_limit, max_retry_limit, default_retry_limit, max_partitions_asked, max_threads_asked, max_ranges, max_records}
use Rattle.jb_job.specs.Names.{name_of}
use Rattle.jb_job.specs.Reading.{wrong_shape, unknown_class, Read, ◌>>=◌, shaped, ranged, whole_number, object_at, text_at, number_at, flag_at, list_at, each_at, pair_at, required, optional}
use Rattle.jb_base.specs.Rules.{RulesRecord}
use Rattle.jb_job.specs.Records.{SpecRecord, StepRecord}

-- ---- exception-classes: the fault classes that the job declares, each once, in first-seen order (own)

-- the text that means every class where classes are included; it is no class's name
abbrev pub every_class : List ℕ
every_class = codes "*"

unfoldable pub class_name_at : Field → Data → Read (List ℕ)
class_name_at f d = do
  name ← text_at 1 max_name f d
  ranged f (not (bytes_eq name every_class)) name

-- A name that was there before keeps its first place.
abbrev pub with_name : List (List ℕ) → List ℕ → List (List ℕ)
with_name names name = if list_any (bytes_eq name) names then names else names ++ name ∷ []

-- the names, each once, in first-seen order
abbrev pub distinct : List (List ℕ) → List (List ℕ)
distinct = fold with_name []

-- The limit counts the texts, before repeated ones are dropped.
unfoldable pub classes_at : Field → Data → Read (List (List ℕ))
classes_at f d = do
  items ← list_at 0 max_classes f d
  names ← each_at (λ _. class_name_at f) items
  Ok (distinct names)

-- ---- sets of classes: the bit 2 ^ n for the class whose place among the declared names is n (own)

abbrev pub declared : Option ℕ → Read ℕ
declared None = Err unknown_class
declared (Some number) = Ok (2 ^ number)

-- The bit of a declared name; all 64 bits for `*`, if it is allowed here. Any other text is an unknown class.
unfoldable pub bits_at : Bool → List (List ℕ) → Field → Data → Read ℕ
bits_at star classes f d = do
  name ← shaped f (as_str d)
  if star && bytes_eq name every_class then Ok (2 ^ 64 - 1) else declared (position (bytes_eq name) classes)

-- the bits of all names
unfoldable pub names_at : Bool → List (List ℕ) → Field → Data → Read ℕ
names_at star classes f d = do
  items ← list_at 0 max_class_names f d
  bits ← each_at (λ _. bits_at star classes f) items
  Ok (fold bit_or 0 bits)

-- The included classes without the excluded ones (Jakarta Batch 2.1, "Skipping Exceptions" and "Retrying Exceptions").
unfoldable pub set_at : List (List ℕ) → Field → Data → Read ℕ
set_at classes f d = do
  set ← object_at f (field.Include ∷ field.Exclude ∷ []) d
  included ← optional (names_at true classes) 0 field.Include set
  excluded ← optional (names_at false classes) 0 field.Exclude set
  Ok (bit_and included (bit_not w64 excluded))

-- ---- ranges: pairs [lo, hi] of record numbers (own)

-- The form of a pair is checked before the range of its numbers.
unfoldable pub range_pair_at : Data → Read Range
range_pair_at d = do
  pair ← pair_at field.Ranges d
  lo ← shaped field.Ranges (whole_number pair.0)
  hi ← shaped field.Ranges (whole_number pair.1)
  ranged field.Ranges (nat_le lo max_records && nat_le hi max_records) (record { lo = lo; hi = hi })

abbrev pub ranges_at : Field → Data → Read (Option (List Range))
ranges_at f d = do
  items ← list_at 0 max_ranges f d
  ranges ← each_at (λ _. range_pair_at) items
  Ok (Some ranges)

-- ---- plan and partition (Jakarta Batch 2.1, "Partition Plan"; 0 threads stand for the number of partitions)

-- A plan can't have both ranges and a number of partitions.
unfoldable pub own_ranges_at : Bool → Field → Data → Read (Option (List Range))
own_ranges_at counted f d = if counted then Err (wrong_shape f) else ranges_at f d

unfoldable pub plan_at : Field → Data → Read SpecRecord
plan_at f d = do
  plan ← object_at f (field.Partitions ∷ field.Threads ∷ field.Override ∷ field.Ranges ∷ []) d
  partitions ← optional (number_at 1 max_partitions_asked) 1 field.Partitions plan
  threads ← optional (number_at 0 max_threads_asked) 0 field.Threads plan
  replace ← optional flag_at false field.Override plan
  ranges ← optional (own_ranges_at (is_some (get (name_of field.Partitions) plan))) None field.Ranges plan
  Ok (record { partitions = partitions; threads = threads; replace = replace; ranges = ranges })

unfoldable pub partition_at : Field → Data → Read SpecRecord
partition_at f d = do
  partition ← object_at f (field.Plan ∷ []) d
  required plan_at field.Plan partition

-- A step with no partition has one partition.
abbrev pub one_partition : SpecRecord
one_partition = record { partitions = 1; threads = 0; replace = false; ranges = None }

-- ---- chunk: an item count and the rules of skipping and retrying
-- (Jakarta Batch 2.1, "Chunk" and "Chunk Exception Handling"; that an absent retry limit is 1,000 is an own choice)

unfoldable pub limit_at : ℕ → Field → Data → Read (Option ℕ)
limit_at high f d = number_at 0 high f d >>= λ n. Ok (Some n)

unfoldable pub chunk_at : List (List ℕ) → Field → Data → Read (ℕ × RulesRecord)
chunk_at classes f d = do
  chunk ← object_at f (field.ItemCount ∷ field.SkipLimit ∷ field.RetryLimit ∷ field.SkippableExceptionClasses ∷ field.RetryableExceptionClasses ∷ field.NoRollbackExceptionClasses ∷ []) d
  item_count ← optional (number_at 1 max_item_count) default_item_count field.ItemCount chunk
  skip_limit ← optional (limit_at max_skip_limit) None field.SkipLimit chunk
  retry_limit ← optional (number_at 0 max_retry_limit) default_retry_limit field.RetryLimit chunk
  skippable ← optional (set_at classes) 0 field.SkippableExceptionClasses chunk
  retryable ← optional (set_at classes) 0 field.RetryableExceptionClasses chunk
  no_rollback ← optional (set_at classes) 0 field.NoRollbackExceptionClasses chunk
  Ok (item_count, record { skippable = skippable; retryable = retryable; no_rollback = no_rollback; skip_limit = skip_limit; retry_limit = retry_limit })

-- ---- step

-- an id that no earlier step has
unfoldable pub new_id_at : List StepRecord → Field → Data → Read (List ℕ)
new_id_at earlier f d = do
  id ← text_at 1 max_name f d
  if list_any (λ s. bytes_eq s.id id) earlier then Err (wrong_shape f) else Ok id

unfoldable pub step_at : List (List ℕ) → List StepRecord → Data → Read StepRecord
step_at classes earlier d = do
  step ← object_at field.Step (field.Id ∷ field.Chunk ∷ field.Partition ∷ []) d
  id ← required (new_id_at earlier) field.Id step
  chunk ← required (chunk_at classes) field.Chunk step
  spec ← optional partition_at one_partition field.Partition step
  Ok (record { id = id; item_count = chunk.0; rules = chunk.1; spec = spec })

unfoldable pub steps_at : List (List ℕ) → Field → Data → Read (List StepRecord)
steps_at classes f d = list_at 1 max_steps f d >>= each_at (step_at classes)

-- ---- job

unfoldable pub job_at : Data → Read Job
job_at d = do
  job ← object_at field.Job (field.Id ∷ field.ExceptionClasses ∷ field.Step ∷ []) d
  id ← required (text_at 1 max_name) field.Id job
  classes ← optional classes_at [] field.ExceptionClasses job
  steps ← required (steps_at classes) field.Step job
  Ok (record { id = id; classes = classes; steps = steps })
