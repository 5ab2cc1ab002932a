-- THE LIST OF SKIPPED RECORDS, and of those by which partitions failed: a line of CSV for each.
use Rattle.std.specs.Prelude.{ℕ, zero, suc, ◌≡◌, ◌-◌, ◌/◌, ◌⊎◌, ◌++◌, Bool, true, false, if◌then◌else◌, List, [], ◌∷◌, Option, None, Some, IfSome, codes, decimal, get_or, length, map, slice_get, unwrap_or, ⊤}
use Rattle.std.specs.Io.KnownBytes.{Appends}
use Rattle.std.specs.List.Sorted.{IsNonDecreasingBy, IsPermutation}
use Rattle.jb_base.specs.declared.class.ClassId.{ClassId}
use Rattle.jb_collect.specs.declared.calls.Status.TheVariants.{Completed, Failed}
use Rattle.jb_csv_job.specs.Done.{AreRead, IsInput}
use Rattle.jb_csv_job.specs.Job.{JobRecord}
use Rattle.jb_csv_job.specs.Loop.{IsOver}
use Rattle.jb_csv_job.specs.Reports.{line_at}
use Rattle.jb_csv_job.specs.SliceFiles.{slice_of}
use Rattle.jb_csv_job.specs.Slices.{IsSliceEnd}
use Rattle.jb_csv_job.specs.Tasks.{is_own}
use Rattle.jb_csv_job.specs.declared.asked.Task.{Task}
use Rattle.jb_rows.specs.Fields.{Fields, fields_in, packed}
use Rattle.jb_rows.specs.Places.{AreLinesFrom, BeginsIn}
use Rattle.jb_rows.specs.Streams.{csv_rows}
use Rattle.jb_rows.specs.declared.rows_options.RowsOptions.{RowsOptions}
use Rattle.jb_slice_run.specs.declared.durable.end.SliceEnd.{SliceEnd}
use Rattle.jb_slice_run.specs.declared.fault.Fault as held
use Rattle.jb_slices.specs.Function.{Fault, Function, faults_from}
use Rattle.jb_slices.specs.Job.{IsLastSlice, Job, first_of, slice_at}

-- ---- A LINE

-- the record of this number, if `first` is the number of the first of these records, which are packed; no field if it isn't among them
abbrev pub record_bytes : (records : List (List ℕ)) → (first number : ℕ) → List ℕ
record_bytes records first number = unwrap_or (slice_get records (number - first)) []

-- the name of a class, by the names of all classes
abbrev pub name_in : (names : List (List ℕ)) → ClassId → List ℕ
name_in names class = unwrap_or (slice_get names class.number) (codes "a class without a name")

-- the line of a fault: its record's number, the first being 0, the line in which the record begins, the name of the class, and the record's fields
abbrev pub skipped_by : (names : List (List ℕ)) → (records : List (List ℕ)) → (lines : List ℕ) → (first : ℕ) → held.Fault → Fields
skipped_by names records lines first fault = decimal fault.number ∷ decimal (line_at lines first fault.number) ∷ name_in names fault.class ∷ fields_in (record_bytes records first fault.number)

-- over the input's header row
abbrev pub skipped_header : Fields → Fields
skipped_header fields = codes "number" ∷ codes "line" ∷ codes "class" ∷ fields

-- THE ROW OF A FAULT of these records of a text: its record's number, the line in which the record begins, the name of the class, and the record
pub record IsRowOf (options : RowsOptions) (text : List ℕ) (names : List (List ℕ)) (records : List Fields) (fault : Fault) (row : Fields) : Type 0 where
  pub line : ℕ
  pub begins : BeginsIn options text fault.number line
  pub fields : row ≡ decimal fault.number ∷ decimal line ∷ name_in names fault.class ∷ get_or records fault.number []

-- each of the rows is that of its fault, in order, and there are no others
abbrev pub AreRowsFor : RowsOptions → (text : List ℕ) → (names : List (List ℕ)) → (records : List Fields) → List Fault → (rows : List Fields) → Type 0
AreRowsFor options text names records [] [] = ⊤
AreRowsFor options text names records [] (row ∷ rows) = ⊥
AreRowsFor options text names records (fault ∷ faults) [] = ⊥
AreRowsFor options text names records (fault ∷ faults) (row ∷ rows) = IsRowOf options text names records fault row × AreRowsFor options text names records faults rows

-- ---- A SLICE

-- THE LIST OF A SLICE THAT ENDED, of these records, which begin in these lines. Of a COMPLETED one it has the faults that were skipped. Else it has
-- those by which partitions failed too, in the order of their records.
pub record IsSliceListed (names : List (List ℕ)) (records : List (List ℕ)) (lines : List ℕ) (first : ℕ) (end : SliceEnd) (rows : List (List ℕ)) : Type 0 where
  pub faults : List held.Fault
  pub skipped : end.status ≡ Completed → faults ≡ end.skips.items
  pub failed : (end.status ≡ Completed) ⊎ (IsPermutation (end.skips.items ++ map (λ one. one.fault) end.failures.items) faults × IsNonDecreasingBy (λ fault. fault.number) faults)
  pub rows_are : map fields_in rows ≡ map (skipped_by names records lines first) faults

-- these are the rows of the slice of this number, by the lines of the text in which its records begin: none if it isn't one of the task's own
pub record AreRowsOfSlice (job : JobRecord) (text : List ℕ) (records : List Fields) (number : ℕ) (rows : List (List ℕ)) : Type 0 where
  pub other : is_own job.task number ≡ false → rows ≡ []
  pub own : is_own job.task number ≡ true → (end : SliceEnd) × (lines : List ℕ) × ((end.status ≡ Completed) ⊎ (end.status ≡ Failed)) × IsSliceEnd job number (slice_of job records number) end
      × AreLinesFrom job.options text (first_of job.job number) lines × (length lines ≡ length (slice_of job records number))
      × IsSliceListed job.job.classes.names (slice_of job records number) lines (first_of job.job number) end rows

-- and these those of the first slices, so many, one slice after the other
abbrev pub AreRowsOfSlices : JobRecord → (text : List ℕ) → (records : List Fields) → (number : ℕ) → (rows : List (List ℕ)) → Type 0
AreRowsOfSlices job text records zero rows = rows ≡ []
AreRowsOfSlices job text records (suc k) rows =
    (before own : List (List ℕ)) × AreRowsOfSlices job text records k before × AreRowsOfSlice job text records k own × (rows ≡ before ++ own)

-- ---- ALL SLICES

-- the faults of the task's own slices, of the first so many, one slice after the other
abbrev pub own_faults : Job → Task → Function → (items : List (List ℕ)) → (count : ℕ) → List Fault
own_faults job task f items zero = []
own_faults job task f items (suc k) = own_faults job task f items k ++ (if is_own task k then faults_from f (first_of job k) (slice_at job items k) else [])

-- of all slices
abbrev pub task_faults : Job → Task → Function → (items : List (List ℕ)) → List Fault
task_faults job task f items = own_faults job task f items (suc (length items / job.slice_length))

-- THE FIRST SLICES, so many, ARE LISTED BY THESE ROWS: without a failure the rows are those of their faults
pub record AreListed (job : JobRecord) (text : List ℕ) (records : List Fields) (number : ℕ) (failed : Bool) (rows : List (List ℕ)) : Type 0 where
  pub slices : AreRowsOfSlices job text records number rows
  pub faults : failed ≡ false → AreRowsFor job.options text job.job.classes.names records (own_faults job.job job.task job.function (map packed records) number) (map fields_in rows)

-- THE JOB IS LISTED by rows that a sink took: slice by slice, up to the last one, or to the one with which more were skipped than the job's limit.
-- With status 0 there is a row for each fault of the task's records, in order.
pub record HasListed (job : JobRecord) (text : Option (List ℕ)) (took : List (List ℕ) → Type 0) (status skips : ℕ) : Type 0 where
  pub records : List Fields
  pub read : AreRead job text records
  pub rows : List (List ℕ)
  pub last : ℕ
  pub taken : took rows
  pub slices : IfSome text (λ bytes. AreRowsOfSlices job bytes records (suc last) rows)
  pub ended : IsLastSlice job.job (map packed records) last ⊎ IsOver job.limits.job_skips skips
  pub faults : status ≡ 0 → IfSome text (λ bytes. AreRowsFor job.options bytes job.job.classes.names records (task_faults job.job job.task job.function (map packed records)) (map fields_in rows))

-- THE SAME OF WHAT WAS WRITTEN: the header row, if it is copied, and these rows, each a line
pub record IsListWritten (job : JobRecord) (text old new : Option (List ℕ)) (status skips : ℕ) : Type 0 where
  pub header : List Fields
  pub records : List Fields
  pub read : IsInput job text header records
  pub rows : List (List ℕ)
  pub last : ℕ
  pub written : Appends old new (csv_rows job.options.delimiter (map skipped_header header ++ map fields_in rows))
  pub slices : IfSome text (λ bytes. AreRowsOfSlices job bytes records (suc last) rows)
  pub ended : IsLastSlice job.job (map packed records) last ⊎ IsOver job.limits.job_skips skips
  pub faults : status ≡ 0 → IfSome text (λ bytes. AreRowsFor job.options bytes job.job.classes.names records (task_faults job.job job.task job.function (map packed records)) (map fields_in rows))

-- ---- A LIST THAT IS ASKED FOR

-- there is a list before and after, of which this holds, or there is none
abbrev pub IfListed : {A B : Type 0} → (old : Option A) → (new : Option B) → (A → B → Type 0) → Type 0
IfListed None None Holds = ⊤
IfListed None (Some new) Holds = ⊥
IfListed (Some old) None Holds = ⊥
IfListed (Some old) (Some new) Holds = Holds old new

-- the list took rows since, of which this holds, or there is none
abbrev pub IfTook : {L : Type 0} → (took : (start now : L) → (rows : List (List ℕ)) → Type 0) → (old new : Option L) → (List (List ℕ) → Type 0) → Type 0
IfTook took old new Holds = IfListed old new (λ start now. (rows : List (List ℕ)) × took start now rows × Holds rows)
