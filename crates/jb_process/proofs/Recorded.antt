-- What the program leaves of a reader that remembers what it gave.
use Rattle.std.proofs.Common.{◌≡◌, ◌⊎◌, inl, inr, ◌≤◌, ◌<◌, ℕ, List, Option, Some, Result, Ok, Err, IfErr, IfOk, IsErrAnd, sym, ◌∙◌, subst, arith}
use Rattle.std.proofs.KnownBytes.{Keeps-refl}
use Rattle.clap.specs.Words.{Text}
use Rattle.jb_streams.specs.declared.recorded.Recorded.{Recorded}
use Rattle.jb_streams.specs.Recorded.{IsUnread}
use Rattle.jb_program.specs.declared.words.request.Request.{Request}
use Rattle.jb_program.specs.declared.streams.error.ProgramError.{ProgramError}
use Rattle.jb_program.specs.declared.streams.error.ProgramError.TheVariants as failure
use Rattle.jb_program.specs.Answer.{IsAnswer}
use Rattle.jb_program.specs.Failures.{HasNoAnswer, HasNoRequest, IsAsked, IsRequestRefused}
use Rattle.jb_process.specs.Recorded.{IsAnswered, IsInputOf, IsRefused, IsUnanswered}

module _ {R : Type 0} (before after : Recorded R) (words : Option (List Text)) where
  -- the arguments ask for nothing, or there was no memory to read them
  pub no_request : (old : Option (List ℕ)) (e : ProgramError) → IsUnread before after → HasNoRequest words e → IsUnanswered words before after old old e
  no_request old (failure.Usage f) unread wrong = (wrong, unread, Keeps-refl old)
  no_request old failure.Memory unread wrong = Keeps-refl old
  no_request old (failure.Document f) unread wrong = absurd wrong
  no_request old (failure.Plan f) unread wrong = absurd wrong
  no_request old (failure.Saved f) unread wrong = absurd wrong
  no_request old failure.Workers unread wrong = absurd wrong
  no_request old (failure.Repository p) unread wrong = absurd wrong
  no_request old failure.Stream unread wrong = absurd wrong

  -- the document couldn't be read
  pub no_document : (r : Result ℕ ProgramError) (request : Request) (old : Option (List ℕ)) (e : ProgramError) → IsErrAnd r (λ one. one ≡ e) → IsAsked words request → (e ≡ failure.Memory) ⊎ (e ≡ failure.Stream)
      → IfErr r (IsUnanswered words before after old old)
  no_document (Ok s) request old e same asked why = tt
  no_document (Err one) request old e same asked (inl is) = subst (IsUnanswered words before after old old) (sym (same ∙ is)) (Keeps-refl old)
  no_document (Err one) request old e same asked (inr is) = subst (IsUnanswered words before after old old) (sym (same ∙ is)) (request, asked, inl (Keeps-refl old))

  refused : (request : Request) (input : List ℕ) (old new : Option (List ℕ)) (e : ProgramError) → IsAsked words request → IsInputOf request before after input → IsRequestRefused request (Some input) old new e
      → IsRefused words before after old new e
  refused request input old new e asked is why = (why.0, input, subst (IsAsked words) why.1 asked, subst (λ asked. IsInputOf asked before after input) why.1 is, why.2, why.3)

  cut_off : (request : Request) (input : List ℕ) (old new : Option (List ℕ)) → IsAsked words request → IsInputOf request before after input → HasNoAnswer request (Some input) old new failure.Stream
      → IsUnanswered words before after old new failure.Stream
  cut_off request input old new asked is (inl kept) = (request, asked, inl kept)
  cut_off request input old new asked is (inr front) = (request, asked, inr (input, is, front))

  -- the request has no answer over its document
  unanswered : (request : Request) (input : List ℕ) (old new : Option (List ℕ)) (e : ProgramError) → IsAsked words request → IsInputOf request before after input → HasNoAnswer request (Some input) old new e
      → IsUnanswered words before after old new e
  unanswered request input old new (failure.Document f) asked is none = refused request input old new (failure.Document f) asked is none
  unanswered request input old new (failure.Plan f) asked is none = refused request input old new (failure.Plan f) asked is none
  unanswered request input old new (failure.Saved f) asked is none = refused request input old new (failure.Saved f) asked is none
  unanswered request input old new failure.Memory asked is none = none
  unanswered request input old new failure.Workers asked is none = none
  unanswered request input old new (failure.Repository p) asked is none = none
  unanswered request input old new failure.Stream asked is none = cut_off request input old new asked is none
  unanswered request input old new (failure.Usage f) asked is none = absurd none

  pub result_unanswered : (r : Result ℕ ProgramError) (request : Request) (input : List ℕ) (old new : Option (List ℕ)) → IsAsked words request → IsInputOf request before after input
      → IfErr r (HasNoAnswer request (Some input) old new) → IfErr r (IsUnanswered words before after old new)
  result_unanswered (Ok s) request input old new asked is none = tt
  result_unanswered (Err e) request input old new asked is none = unanswered request input old new e asked is none

  pub result_answered : (r : Result ℕ ProgramError) (request : Request) (input : List ℕ) (old new : Option (List ℕ)) → IsAsked words request → IsInputOf request before after input
      → IfOk r (IsAnswer request (Some input) old new) → IfOk r (IsAnswered words before after old new)
  result_answered (Ok s) request input old new asked is answer = (request, input, asked, is, answer)
  result_answered (Err e) request input old new asked is answer = tt

-- a status past those of an answer is that of a failure
pub failure_by_status : {P Q : ProgramError → Type 0} (r : Result ℕ ProgramError) (status : ℕ) → IfOk r (λ s. status ≡ s) → IfOk r (λ s. s < 3) → IfErr r P → IfErr r Q → 3 ≤ status → (e : ProgramError) × P e × Q e
failure_by_status (Ok s) status reported below p q past = absurd (omega (arith, reported, below, past))
failure_by_status (Err e) status reported below p q past = (e, p, q)
