-- What a reducer was called with between two moments.
use Rattle.std.specs.Prelude.{◌≡◌, Bool, true, false, if◌then◌else◌, Result, Ok, Err, List}
use Rattle.jb_base.specs.declared.artifact_error.ArtifactError.{ArtifactError}
use Rattle.jb_base.specs.declared.artifact_error.ArtifactError.TheVariants as artifact
use Rattle.jb_collect.specs.declared.calls.ReducerCall.{ReducerCall}
use Rattle.jb_collect.specs.declared.calls.Status.{Status}
use Rattle.jb_collect.specs.declared.calls.Status.TheVariants.{Failed}
use Rattle.jb_collect.specs.ReducerCalls.{before_failed, calls_after}
use Rattle.jb_collect.specs.AnsweredCalls.{AnsweredCall, calls_of}
use Rattle.jb_step.specs.declared.rounds.error.StepRunError.{StepRunError}
use Rattle.jb_step.specs.declared.rounds.error.StepRunError.TheVariants as error
use Rattle.jb_step.specs.callbacks.Callbacks.{has_fault}

-- these calls were taken; whether one was answered with a fault, and whether `before_completion` was
pub record IsReducing (calls : List ReducerCall) (faulted at_before : Bool) (taken : List (AnsweredCall ReducerCall)) : Type 0 where
  pub calls_are : calls_of taken ≡ calls
  pub faulted_is : has_fault taken ≡ faulted
  pub before_is : before_failed taken ≡ at_before

-- whether a call was answered with a fault; where it found no memory, that is the error
abbrev pub callback_fault : Result (Unit {0}) ArtifactError → Result Bool StepRunError
callback_fault (Ok done) = Ok false
callback_fault (Err (artifact.Fault class)) = Ok true
callback_fault (Err artifact.Memory) = Err error.Memory

-- the calls at a step's end, by its status before them and by what `before_completion` answered, and its status after them
pub record IsEnding (status ended : Status) (taken : List (AnsweredCall ReducerCall)) : Type 0 where
  pub calls_are : calls_of taken ≡ calls_after status (before_failed taken)
  pub ended_is : ended ≡ (if has_fault taken then Failed else status)
