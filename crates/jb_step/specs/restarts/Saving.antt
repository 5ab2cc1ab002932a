-- Saved rows, as a step answers for them.
use Rattle.std.specs.Prelude.{◌≡◌, ℕ, Option, Some, None, Result}
use Rattle.jb_base.specs.Causes.{Cause, no_memory, of_fault, never, Answers}
use Rattle.jb_saved.specs.declared.error.SavedError.{SavedError}
use Rattle.jb_saved.specs.declared.error.SavedError.TheVariants as saving
use Rattle.jb_saved.specs.declared.place.SavedPlace.{SavedPlace}
use Rattle.jb_saved.specs.declared.place.SavedPlace.TheVariants.{Rows}
use Rattle.jb_saved.specs.SavedRows.{SavedRows}
use Rattle.jb_step.specs.declared.error.StepError.{StepError}
use Rattle.jb_step.specs.declared.error.StepError.TheVariants.{Saved, Memory}

-- the error of saved rows, as a step has it
abbrev pub step_error : SavedError → StepError
step_error (saving.Refused place) = Saved place
step_error saving.Memory = Memory

-- what an error says of a saved text
abbrev pub text_cause : StepError → Cause SavedPlace
text_cause (Saved place) = of_fault place
text_cause Memory = no_memory
text_cause _ = never

-- what a function returned is this answer, unless memory ran out
abbrev pub AnswersSaved : Result SavedRows StepError → Result SavedRows SavedPlace → Type 0
AnswersSaved result answer = Answers text_cause (λ s. s) result answer

-- rows aren't saved if one is running: the first is named; memory runs out only if none is running
abbrev pub RefusesSaving : StepError → Option ℕ → Type 0
RefusesSaving (Saved place) (Some i) = place ≡ Rows i
RefusesSaving Memory running = running ≡ None
RefusesSaving _ running = ⊥
