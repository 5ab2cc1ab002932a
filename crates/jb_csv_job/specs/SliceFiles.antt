-- What the files of a job's slices hold.
use Rattle.std.specs.Prelude.{ℕ, ◌≡◌, ◌⊎◌, true, List, Option, Some, IfSome, map}
use Rattle.sqlite.specs.Files.{HoldsDatabase, IsNothing}
use Rattle.sqlite_trees.specs.Tree.{Trees}
use Rattle.sqlite_wal.specs.Recovery.{Image}
use Rattle.jb_rows.specs.Fields.{Fields, packed}
use Rattle.jb_rows.specs.Texts.{AreRowsOf}
use Rattle.jb_slice_file.specs.Files.{HoldsRun}
use Rattle.jb_slice_file.specs.CheckpointBytes.{CheckpointBytes}
use Rattle.jb_slice_file.specs.Rows.{Has}
use Rattle.jb_slice_run.specs.SliceBytes.{KeepsSlice}
use Rattle.jb_slice_run.specs.Step.{AreStampsOf}
use Rattle.jb_slices.specs.Job.{HasSlice, slice_at}
use Rattle.jb_slices.specs.Slice.{Functions}
use Rattle.jb_csv_job.specs.Job.{JobRecord}
use Rattle.jb_csv_job.specs.Tasks.{is_own}

-- ---- ONE SLICE

-- these bytes store the slice so far
abbrev pub KeepsOwn : JobRecord → Functions → (number : ℕ) → (items : List (List ℕ)) → List CheckpointBytes → Type 0
KeepsOwn job functions number items all = KeepsSlice job.job functions number items all

-- THE FILES OF A SLICE, of these items, hold a database with its checkpoints so far, or nothing yet
abbrev pub HoldsSlice : JobRecord → Functions → (number : ℕ) → (items : List (List ℕ)) → Image → Type 0
HoldsSlice job functions number items image =
    ((db : Trees) × (all : List CheckpointBytes) × HoldsDatabase image db × Has db all × KeepsOwn job functions number items all) ⊎ IsNothing image

-- ---- THE JOB

-- the slice of this number, by these records
abbrev pub slice_of : JobRecord → (records : List Fields) → (number : ℕ) → List (List ℕ)
slice_of job records number = slice_at job.job (map packed records) number

abbrev pub image_by : (log db : ℕ → List ℕ) → (number : ℕ) → Image
image_by log db number = record { log = log number; db = db number }

-- THE JOB CAN BE RESUMED: the bytes of the text are known, and the function of each of its stamps is its own. The files of each of the task's own
-- slices hold that slice of the text so far, or nothing.
pub record CanResumeJob (job : JobRecord) (functions : Functions) (text : Option (List ℕ)) (log db : ℕ → List ℕ) : Type 0 where
  pub bytes : List ℕ
  pub known : text ≡ Some bytes
  pub records : List Fields
  pub read : AreRowsOf job.options bytes records
  pub stamps : AreStampsOf functions job.function job.stamps
  pub each : (k : ℕ) → HasSlice job.job (map packed records) k → is_own job.task k ≡ true → HoldsSlice job functions k (slice_of job records k) (image_by log db k)

-- A CRASH LEAVES THE SLICE SO FAR in the files of this one: a database with its checkpoints, of this text
pub record LeavesSlice (job : JobRecord) (functions : Functions) (text : Option (List ℕ)) (number : ℕ) (image : Image) : Type 0 where
  pub records : List Fields
  pub read : IfSome text (λ bytes. AreRowsOf job.options bytes records)
  pub holds : HoldsRun (KeepsOwn job functions number (slice_of job records number)) image

-- WHATEVER IT LEAVES of any slice is what it left before the call, or the slice so far
abbrev pub LeavesJob : JobRecord → Functions → (text : Option (List ℕ)) → (old new : (number : ℕ) → (items : List (List ℕ)) → Image → Type 0) → Type 0
LeavesJob job functions text old new =
    (number : ℕ) (items : List (List ℕ)) (image : Image) → new number items image → old number items image ⊎ LeavesSlice job functions text number image

-- ---- FROM CALL TO CALL

-- THE LAW: the next call can resume what a crash leaves of the files of a slice
abbrev pub LeftIsHeld : Type 0
LeftIsHeld =
    (job : JobRecord) (functions : Functions) (number : ℕ) (items : List (List ℕ)) (image : Image) → HoldsRun (KeepsOwn job functions number items) image
    → ∥ HoldsSlice job functions number items image ∥₁
