-- How the subcommands fail.
use Rattle.std.specs.Prelude.{◌≡◌}
use Rattle.jb_job.specs.declared.error.JobError.{JobError}
use Rattle.jb_job.specs.declared.error.JobError.TheVariants as fault
use Rattle.jb_step.specs.declared.error.StepError.{StepError}
use Rattle.jb_step.specs.declared.error.StepError.TheVariants as error
use Rattle.jb_program.specs.declared.streams.error.ProgramError.{ProgramError}
use Rattle.jb_program.specs.declared.streams.error.ProgramError.TheVariants as failure

-- out of memory is no fault of a document
abbrev pub IsDocumentFault : JobError → Type 0
IsDocumentFault fault.Memory = ⊥
IsDocumentFault _ = Unit

-- the failure that a run reports of its step's error; the program's own artifacts and callbacks have no other
abbrev pub IsFailureOf : StepError → ProgramError → Type 0
IsFailureOf (error.Repository partition) e = e ≡ failure.Repository partition
IsFailureOf error.Workers e = e ≡ failure.Workers
IsFailureOf error.Memory e = e ≡ failure.Memory
IsFailureOf _ e = ⊥

-- ---- WHICH ERRORS THERE MAY BE, by what the program does

pub data Phase : Type 0 where
  -- `plan` and `check`: it reads a document and writes the answer
  Answering : Phase
  -- `run` and `restart`: it does so, and runs the steps of a job
  RunningJob : Phase
  -- it runs the rounds of a step
  RunningRounds : Phase

abbrev pub Explains : Phase → ProgramError → Type 0
-- it is out of memory
Explains phase failure.Memory = Unit
-- the document has a fault
Explains Answering (failure.Document fault) = IsDocumentFault fault
Explains RunningJob (failure.Document fault) = IsDocumentFault fault
-- a stream fails
Explains Answering failure.Stream = Unit
Explains RunningJob failure.Stream = Unit
-- a step's partition plan or its saved rows have a fault
Explains RunningJob (failure.Plan _) = Unit
Explains RunningJob (failure.Saved _) = Unit
-- a worker can't be started
Explains RunningJob failure.Workers = Unit
Explains RunningRounds failure.Workers = Unit
-- the repository isn't the step's own
Explains RunningJob (failure.Repository _) = Unit
Explains RunningRounds (failure.Repository _) = Unit
Explains phase e = ⊥
