-- What is written where there is no answer (own choice).
use Rattle.std.specs.Prelude.{ℕ, List, [], ◌∷◌, ◌++◌, codes, decimal}
use Rattle.jb_job.specs.Names.{fault_text}
use Rattle.jb_plan.specs.Texts.{error_text}
use Rattle.jb_documents.specs.RestartDocument.{restart_fault_text}
use Rattle.jb_documents.specs.declared.restart.fault.RestartFault.TheVariants.{Saved}
use Rattle.jb_program.specs.UsageText.{usage_text}
use Rattle.jb_program.specs.declared.streams.error.ProgramError.{ProgramError}
use Rattle.jb_program.specs.declared.streams.error.ProgramError.TheVariants as failure

-- the first fault of the document, of a step's partition plan, or of the saved rows
unfoldable pub refusal_line : List ℕ → List ℕ
refusal_line fault = codes "refused: " ++ (fault ++ 10 ∷ [])

-- one line, and one more if the arguments are wrong
abbrev pub failure_text : ProgramError → List ℕ
failure_text (failure.Usage fault) = usage_text fault
failure_text (failure.Document fault) = refusal_line (fault_text fault)
failure_text (failure.Plan error) = refusal_line (error_text error)
failure_text (failure.Saved place) = refusal_line (restart_fault_text (Saved place))
failure_text failure.Memory = codes "no memory\n"
failure_text failure.Workers = codes "no worker\n"
failure_text (failure.Repository partition) = codes "repository " ++ (decimal partition ++ 10 ∷ [])
failure_text failure.Stream = codes "stream failed\n"
