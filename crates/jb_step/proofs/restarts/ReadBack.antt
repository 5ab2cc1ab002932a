-- What was written of saved rows reads back as these rows.
use Rattle.std.proofs.Common.{◌≡◌, Result, Ok, Err, refl}
use Rattle.std.specs.Prelude.{MatchResult}
use Rattle.jb_saved.specs.declared.place.SavedPlace.{SavedPlace}
use Rattle.jb_saved.specs.SavedRows.{SavedRows}
use Rattle.jb_step.specs.declared.error.StepError.{StepError}
use Rattle.jb_step.specs.declared.error.StepError.TheVariants as error
use Rattle.jb_step.specs.restarts.Saving.{AnswersSaved}

-- what gives these rows is these rows, or memory ran out
pub gives : (answer : Result SavedRows SavedPlace) (s : SavedRows) → answer ≡ Ok s → (r : Result SavedRows StepError) → AnswersSaved r answer → MatchResult r (λ read. read ≡ s) (λ e. e ≡ error.Memory)
gives answer s is (Ok read) a = cc
gives answer s is (Err (error.Saved p)) a = cc
gives answer s is (Err error.Memory) a = refl
gives answer s is (Err (error.Plan f)) a = absurd a
gives answer s is (Err (error.Mapper c)) a = absurd a
gives answer s is (Err (error.Reducer c)) a = absurd a
gives answer s is (Err error.WrongArtifacts) a = absurd a
gives answer s is (Err (error.Repository p)) a = absurd a
gives answer s is (Err error.Workers) a = absurd a
