-- The exit status of the program where there is no answer (own choice).
use Rattle.std.specs.Prelude.{ℕ}
use Rattle.jb_job.specs.declared.error.JobError.{JobError}
use Rattle.jb_job.specs.declared.error.JobError.TheVariants as fault
use Rattle.jb_plan.specs.declared.fault.PlanError.{PlanError}
use Rattle.jb_plan.specs.declared.fault.PlanError.TheVariants as plan_fault
use Rattle.jb_documents.specs.declared.restart.fault.RestartFault.{RestartFault}
use Rattle.jb_documents.specs.declared.restart.fault.RestartFault.TheVariants as restart_fault
use Rattle.jb_program.specs.declared.words.fault.LineFault.{LineFault}
use Rattle.jb_program.specs.declared.words.fault.LineFault.TheVariants as line_fault
use Rattle.jb_program.specs.declared.streams.error.ProgramError.{ProgramError}
use Rattle.jb_program.specs.declared.streams.error.ProgramError.TheVariants as failure

-- 3 where the document, a plan or the saved rows are refused, 4 for memory, workers, the repository and streams, 5 for the command line
abbrev pub failure_code : ProgramError → ℕ
failure_code (failure.Document f) = 3
failure_code (failure.Plan f) = 3
failure_code (failure.Saved place) = 3
failure_code failure.Memory = 4
failure_code failure.Workers = 4
failure_code (failure.Repository partition) = 4
failure_code failure.Stream = 4
failure_code (failure.Usage fault) = 5

-- the failure that a fault of a document is
abbrev pub failure_of : JobError → ProgramError
failure_of fault.Memory = failure.Memory
failure_of fault.NotJson = failure.Document fault.NotJson
failure_of (fault.WrongShape f) = failure.Document (fault.WrongShape f)
failure_of (fault.OutOfRange f) = failure.Document (fault.OutOfRange f)
failure_of (fault.TooMany f) = failure.Document (fault.TooMany f)
failure_of fault.UnknownClass = failure.Document fault.UnknownClass

-- the failure that a fault of a partition plan is
abbrev pub plan_failure : PlanError → ProgramError
plan_failure plan_fault.Memory = failure.Memory
plan_failure plan_fault.NoPartition = failure.Plan plan_fault.NoPartition
plan_failure plan_fault.TooMany = failure.Plan plan_fault.TooMany
plan_failure (plan_fault.Reversed i) = failure.Plan (plan_fault.Reversed i)
plan_failure (plan_fault.PastEnd i) = failure.Plan (plan_fault.PastEnd i)
plan_failure (plan_fault.Overlap i j) = failure.Plan (plan_fault.Overlap i j)
plan_failure plan_fault.Threads = failure.Plan plan_fault.Threads

-- the failure that a fault of the command line is
abbrev pub line_failure : LineFault → ProgramError
line_failure (line_fault.Usage fault) = failure.Usage fault
line_failure line_fault.Memory = failure.Memory

-- the failure that a fault of a document of `restart` is
abbrev pub restart_failure : RestartFault → ProgramError
restart_failure (restart_fault.Document f) = failure_of f
restart_failure (restart_fault.Saved place) = failure.Saved place
