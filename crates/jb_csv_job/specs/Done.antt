-- What a job over CSV answers and writes.
use Rattle.std.specs.Prelude.{ℕ, ◌≡◌, ◌++◌, List, Option, IfSome, length, map, take}
use Rattle.std.specs.Io.KnownBytes.{Appends}
use Rattle.jb_rows.specs.Answers as rows
use Rattle.jb_rows.specs.Fields.{Fields, packed}
use Rattle.jb_rows.specs.Streams.{csv_rows}
use Rattle.jb_rows.specs.Texts.{AreRowsOf, copied_header}
use Rattle.jb_slices.specs.Function.{all_results, fault_classes}
use Rattle.jb_slices.specs.Job.{first_of}
use Rattle.jb_csv_job.specs.Job.{JobRecord}
use Rattle.jb_csv_job.specs.Tasks.{TaskPasses, given_by, task_items}

-- ---- WRITTEN

-- the text has this header row to copy, if it has one, and these records
abbrev pub IsInput : JobRecord → (text : Option (List ℕ)) → (header records : List Fields) → Type 0
IsInput job text header records = IfSome text (λ bytes. (header ≡ copied_header job.options bytes) × AreRowsOf job.options bytes records)

-- WHAT WAS WRITTEN IS THE HEADER ROW, IF IT IS COPIED, AND THE RESULTS OF ALL RECORDS THAT WERE READ, each a line, once and in order. A part
-- writes nothing. If the bytes of a stream aren't known, nothing is said of them.
pub record IsJobDone (job : JobRecord) (text old new : Option (List ℕ)) : Type 0 where
  pub header : List Fields
  pub records : List Fields
  pub read : IsInput job text header records
  pub written : Appends old new (csv_rows job.options.delimiter (given_by job.task (header ++ rows.all_results job.function records)))

-- THOSE OF THE RECORDS OF THE FIRST SLICES, SO MANY
pub record IsDoneSoFar (job : JobRecord) (text old new : Option (List ℕ)) : Type 0 where
  pub header : List Fields
  pub records : List Fields
  pub count : ℕ
  pub read : IsInput job text header records
  pub written : Appends old new (csv_rows job.options.delimiter (given_by job.task (header ++ rows.all_results job.function (take (first_of job.job count) records))))

-- ---- GIVEN TO A SINK

-- these are the records of the text
abbrev pub AreRead : JobRecord → (text : Option (List ℕ)) → (records : List Fields) → Type 0
AreRead job text records = IfSome text (λ bytes. AreRowsOf job.options bytes records)

-- WHAT A SINK TOOK ARE THE RESULTS OF ALL RECORDS, packed, once and in order
pub record HasTakenAll (job : JobRecord) (text : Option (List ℕ)) (took : List (List ℕ) → Type 0) : Type 0 where
  pub records : List Fields
  pub read : AreRead job text records
  pub taken : took (given_by job.task (all_results job.function (map packed records)))

-- THOSE OF THE RECORDS OF THE FIRST SLICES, SO MANY
pub record HasTakenSoFar (job : JobRecord) (text : Option (List ℕ)) (took : List (List ℕ) → Type 0) : Type 0 where
  pub records : List Fields
  pub count : ℕ
  pub read : AreRead job text records
  pub taken : took (given_by job.task (all_results job.function (take (first_of job.job count) (map packed records))))

-- ---- THE STATUS

-- THE EXIT STATUS IS 0 ONLY IF THE RULES LET THE RECORDS OF THE TASK PASS, AND 1 ONLY IF THEY DON'T
pub record IsByRules (job : JobRecord) (text : Option (List ℕ)) (status : ℕ) : Type 0 where
  pub records : List Fields
  pub read : AreRead job text records
  pub passes : status ≡ 0 → TaskPasses job (map packed records)
  pub fails : status ≡ 1 → TaskPasses job (map packed records) → ⊥

-- so many records of the task have a fault, which was skipped
pub record HasSkipped (job : JobRecord) (text : Option (List ℕ)) (skips : ℕ) : Type 0 where
  pub records : List Fields
  pub read : AreRead job text records
  pub skips_are : skips ≡ length (fault_classes job.function (task_items job.job job.task (map packed records)))

-- THE JOB HAS ENDED, with this exit status and so many skips
pub record HasEnded (job : JobRecord) (text : Option (List ℕ)) (took : List (List ℕ) → Type 0) (status skips : ℕ) : Type 0 where
  pub by_rules : IsByRules job text status
  pub all : status ≡ 0 → HasTakenAll job text took
  pub skipped : status ≡ 0 → HasSkipped job text skips
