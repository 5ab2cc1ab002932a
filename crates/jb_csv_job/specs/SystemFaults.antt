-- WHICH REFUSAL A FAILED CALL OF THE SYSTEM IS: one name if the failure lasts, and another one if it may pass.
use Rattle.std.specs.Prelude.{◌≡◌, ◌⊎◌, ℕ, true, if◌then◌else◌}
use Rattle.std.specs.declared.io.Error.{Error}
use Rattle.jb_files.specs.Lasting.{lasts}
use Rattle.jb_files.specs.declared.folders.MakeFault.{MakeFault}
use Rattle.jb_files.specs.declared.folders.MakeFault.TheVariants as make
use Rattle.jb_slice_file.specs.declared.error.StoreError.{StoreError}
use Rattle.jb_slice_file.specs.declared.error.StoreError.TheVariants.{CannotOpen}
use Rattle.jb_csv_job.specs.declared.failure.CsvJobError.{CsvJobError}
use Rattle.jb_csv_job.specs.declared.failure.CsvJobError.TheVariants.{File, NotAllowed}
use Rattle.jb_csv_job.specs.declared.failure.FolderFault.{FolderFault}
use Rattle.jb_csv_job.specs.declared.failure.FolderFault.TheVariants as folder
use Rattle.jb_csv_job.specs.declared.failure.OutputFault.{OutputFault}
use Rattle.jb_csv_job.specs.declared.failure.OutputFault.TheVariants as output

-- of FOLDER, as it is made
abbrev pub folder_fault : MakeFault → FolderFault
folder_fault make.NotAFolder = folder.NotAFolder
folder_fault (make.System error) = if lasts error then folder.NotAllowed error else folder.CannotMake error
folder_fault (make.NotSynced error) = folder.NotSynced error

-- of PATH, as it is written
abbrev pub output_fault : Error → OutputFault
output_fault error = if lasts error then output.NotAllowed error else output.CannotWrite error

-- of a slice's file that isn't opened: if it can't be, the system may say a reason that lasts
abbrev pub IsFileFailure : (number : ℕ) → StoreError → CsvJobError → Type 0
IsFileFailure number error failure = (failure ≡ File number error) ⊎ ((error ≡ CannotOpen) × ((why : Error) × (lasts why ≡ true) × (failure ≡ NotAllowed number why)))
