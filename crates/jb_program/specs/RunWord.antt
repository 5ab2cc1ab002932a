-- What `run` leaves.
use Rattle.std.specs.Prelude.{◌≡◌, ℕ, List, Option, None, IfSome}
use Rattle.std.specs.List.{zip}
use Rattle.std.specs.Io.KnownBytes.{Appends}
use Rattle.jb_plan.specs.declared.fault.PlanError.{PlanError}
use Rattle.jb_documents.specs.declared.run.document.Document.{Document}
use Rattle.jb_documents.specs.RunDocument.{IsDocument}
use Rattle.jb_texts.specs.Front.{AppendsFront}
use Rattle.jb_texts.specs.Report.{Report, report_text}
use Rattle.jb_texts.specs.Statuses.{status_code}
use Rattle.jb_program.specs.declared.streams.error.ProgramError.TheVariants as failure
use Rattle.jb_program.specs.JobRun.{IsJobReport, IsRefusedAtStep}

-- the report is what the run of the bytes' document leaves, each step in no more rounds than the limit
pub record IsReportOf (round_limit : Option ℕ) (report : Report) (bytes : List ℕ) : Type 0 where
  pub document : Document
  pub read : IsDocument bytes document
  pub ran : IsJobReport document round_limit report

-- The writer holds one report more, of the document that the reader's bytes are, and the exit status is the job's.
pub record IsReported (round_limit : Option ℕ) (input old new : Option (List ℕ)) (status : ℕ) : Type 0 where
  pub report : Report
  pub written : Appends old new (report_text report)
  pub ended : status ≡ status_code report.status
  pub report_of : IfSome input (IsReportOf round_limit report)

-- The writer holds the front of that report more.
abbrev pub IsRunFront : (round_limit : Option ℕ) → (input old new : Option (List ℕ)) → Type 0
IsRunFront round_limit input old new = (report : Report) × AppendsFront old new (report_text report) × IfSome input (IsReportOf round_limit report)

-- A step of the bytes' document has a plan that is refused for this fault, and each step before it was completed.
pub record IsRefusedPlan (round_limit : Option ℕ) (fault : PlanError) (bytes : List ℕ) : Type 0 where
  pub document : Document
  pub read : IsDocument bytes document
  pub refused : IsRefusedAtStep (zip document.job.steps document.step_data) round_limit None (failure.Plan fault)
