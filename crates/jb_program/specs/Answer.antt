-- What the program leaves.
use Rattle.std.specs.Prelude.{◌≡◌, ℕ, ◌<◌, List, Option}
use Rattle.std.specs.Io.KnownBytes.{Appends}
use Rattle.jb_documents.specs.RunDocument.{IsRefusedDocument}
use Rattle.jb_documents.specs.RestartDocument.{IsRefusedRestart}
use Rattle.jb_documents.specs.declared.restart.fault.RestartFault.TheVariants as restart_fault
use Rattle.jb_documents.specs.PlanDocument.{IsRefusedLoad}
use Rattle.jb_documents.specs.CheckDocument.{IsRefusedClaim}
use Rattle.jb_texts.specs.Front.{AppendsFront}
use Rattle.jb_program.specs.declared.words.request.Request.{Request}
use Rattle.jb_program.specs.declared.words.request.Request.TheVariants.{Help, Version, Perform}
use Rattle.jb_program.specs.declared.words.request.Word.{Word}
use Rattle.jb_program.specs.declared.words.request.Word.TheVariants.{Run, Restart, Plan, Check}
use Rattle.jb_program.specs.Help.{help_text, version_text}
use Rattle.jb_program.specs.RunWord.{IsRefusedPlan, IsReported, IsRunFront}
use Rattle.jb_program.specs.RestartWord.{IsRefusedRestartStep, IsRefusedSaved, IsRestarted, IsRestartFront}
use Rattle.jb_program.specs.PlanWord.{IsPlanned, IsPlanFront}
use Rattle.jb_program.specs.CheckWord.{IsCheckAnswer, IsCheckFront}
use Rattle.jb_program.specs.Refusals.{IsDocumentFault}
use Rattle.jb_program.specs.declared.streams.error.ProgramError.{ProgramError}
use Rattle.jb_program.specs.declared.streams.error.ProgramError.TheVariants as failure

-- The writer holds what the word makes of the document, and the status is the answer's.
abbrev pub IsPerformedAnswer : Word → (round_limit : Option ℕ) → (input old new : Option (List ℕ)) → (status : ℕ) → Type 0
IsPerformedAnswer Run round_limit input old new status = (status < 3) × IsReported round_limit input old new status
IsPerformedAnswer Restart round_limit input old new status = (status < 3) × IsRestarted round_limit input old new status
IsPerformedAnswer Plan round_limit input old new status = (status ≡ 0) × IsPlanned input old new
IsPerformedAnswer Check round_limit input old new status = (status < 2) × IsCheckAnswer input old new status

-- The writer holds the answer: what a word makes of the document, or what the program says of itself, with status 0.
abbrev pub IsAnswer : Request → (input old new : Option (List ℕ)) → (status : ℕ) → Type 0
IsAnswer (Perform line) input old new status = IsPerformedAnswer line.word line.rounds input old new status
IsAnswer (Help topic) input old new status = (status ≡ 0) × Appends old new (help_text topic)
IsAnswer Version input old new status = (status ≡ 0) × Appends old new version_text

-- The writer holds the front of what the word makes of the document: nothing of it, some of its bytes, or all.
abbrev pub IsPerformedFront : Word → (round_limit : Option ℕ) → (input old new : Option (List ℕ)) → Type 0
IsPerformedFront Run round_limit input old new = IsRunFront round_limit input old new
IsPerformedFront Restart round_limit input old new = IsRestartFront round_limit input old new
IsPerformedFront Plan round_limit input old new = IsPlanFront input old new
IsPerformedFront Check round_limit input old new = IsCheckFront input old new

-- The same of any answer.
abbrev pub IsAnswerFront : Request → (input old new : Option (List ℕ)) → Type 0
IsAnswerFront (Perform line) input old new = IsPerformedFront line.word line.rounds input old new
IsAnswerFront (Help topic) input old new = AppendsFront old new (help_text topic)
IsAnswerFront Version input old new = AppendsFront old new version_text

-- The bytes are refused by this line, and the failure names why: their first fault, the first refused plan of a job, or what is
-- refused of the saved rows.
abbrev pub IsRefusedBy : Word → (round_limit : Option ℕ) → ProgramError → List ℕ → Type 0
IsRefusedBy Run round_limit (failure.Document fault) bytes = IsDocumentFault fault × IsRefusedDocument fault bytes
IsRefusedBy Run round_limit (failure.Plan fault) bytes = IsRefusedPlan round_limit fault bytes
IsRefusedBy Restart round_limit (failure.Document fault) bytes = IsDocumentFault fault × IsRefusedRestart (restart_fault.Document fault) bytes
IsRefusedBy Restart round_limit (failure.Plan fault) bytes = IsRefusedRestartStep round_limit (failure.Plan fault) bytes
IsRefusedBy Restart round_limit (failure.Saved place) bytes = IsRefusedSaved round_limit place bytes
IsRefusedBy Plan round_limit (failure.Document fault) bytes = IsDocumentFault fault × IsRefusedLoad fault bytes
IsRefusedBy Check round_limit (failure.Document fault) bytes = IsDocumentFault fault × IsRefusedClaim fault bytes
IsRefusedBy _ _ _ bytes = ⊥
