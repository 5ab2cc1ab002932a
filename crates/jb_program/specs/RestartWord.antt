-- What `restart` leaves.
use Rattle.std.specs.Prelude.{◌≡◌, ℕ, List, Option, ◌⊎◌, IfSome}
use Rattle.std.specs.Io.KnownBytes.{Appends}
use Rattle.jb_saved.specs.declared.place.SavedPlace.{SavedPlace}
use Rattle.jb_documents.specs.declared.restart.document.RestartDocument.{RestartDocument}
use Rattle.jb_documents.specs.declared.restart.fault.RestartFault.TheVariants as restart_fault
use Rattle.jb_documents.specs.RestartDocument.{IsRestartText, IsRefusedRestart}
use Rattle.jb_texts.specs.Front.{AppendsFront}
use Rattle.jb_texts.specs.Report.{Report, report_text}
use Rattle.jb_texts.specs.Statuses.{status_code}
use Rattle.jb_program.specs.declared.streams.error.ProgramError.{ProgramError}
use Rattle.jb_program.specs.declared.streams.error.ProgramError.TheVariants as failure
use Rattle.jb_program.specs.JobRun.{IsRestartRun, IsRestartRefused}

-- the report is what the restart of the bytes' document leaves, each step in no more rounds than the limit
pub record IsRestartReportOf (round_limit : Option ℕ) (report : Report) (bytes : List ℕ) : Type 0 where
  pub document : RestartDocument
  pub read : IsRestartText bytes document
  pub ran : IsRestartRun document round_limit report

-- The writer holds one report more, of the document that the reader's bytes are, and the exit status is the job's.
pub record IsRestarted (round_limit : Option ℕ) (input old new : Option (List ℕ)) (status : ℕ) : Type 0 where
  pub report : Report
  pub written : Appends old new (report_text report)
  pub ended : status ≡ status_code report.status
  pub report_of : IfSome input (IsRestartReportOf round_limit report)

-- The writer holds the front of that report more.
abbrev pub IsRestartFront : (round_limit : Option ℕ) → (input old new : Option (List ℕ)) → Type 0
IsRestartFront round_limit input old new = (report : Report) × AppendsFront old new (report_text report) × IfSome input (IsRestartReportOf round_limit report)

-- A step of the bytes' document that comes to its turn is refused for this, its plan or the saved rows.
pub record IsRefusedRestartStep (round_limit : Option ℕ) (e : ProgramError) (bytes : List ℕ) : Type 0 where
  pub document : RestartDocument
  pub read : IsRestartText bytes document
  pub refused : IsRestartRefused document round_limit e

-- The saved rows are refused where they are read, or where their step begins.
abbrev pub IsRefusedSaved : (round_limit : Option ℕ) → SavedPlace → List ℕ → Type 0
IsRefusedSaved round_limit place bytes = IsRefusedRestart (restart_fault.Saved place) bytes ⊎ IsRefusedRestartStep round_limit (failure.Saved place) bytes
