-- Why a word has no answer.
use Rattle.std.proofs.Common.{◌≡◌, ◌≢◌, ◌≤◌, ◌<◌, ℕ, List, Option, IfSome, Result, Ok, Err, IfErr, IfOk, refl, subst, arith}
use Rattle.std.proofs.KnownBytes.{Keeps-refl}
use Rattle.std.specs.Io.KnownBytes.{Keeps}
use Rattle.clap.specs.Words.{Text}
use Rattle.jb_program.specs.declared.words.request.Line.{Line}
use Rattle.jb_program.specs.declared.streams.error.ProgramError.{ProgramError}
use Rattle.jb_program.specs.declared.streams.error.ProgramError.TheVariants as failure
use Rattle.jb_program.specs.declared.words.request.Request.{Request}
use Rattle.jb_program.specs.declared.words.request.Request.TheVariants.{Perform}
use Rattle.jb_program.specs.Answer.{IsRefusedBy}
use Rattle.jb_program.specs.Failures.{HasFailed, HasNoAnswer, HasNoRequest, IsAsked, IsCutShort, IsRequestRefused, IsWordRefused}
use Rattle.jb_program.specs.Refusals.{Answering, Explains, RunningJob}
use Rattle.jb_program.specs.Statuses.{failure_code}

-- plan and check fail in no way in which run doesn't
pub as_run_failure : (e : ProgramError) → Explains Answering e → Explains RunningJob e
as_run_failure (failure.Document f) fails = fails
as_run_failure (failure.Plan f) fails = absurd fails
as_run_failure (failure.Saved f) fails = absurd fails
as_run_failure failure.Memory fails = fails
as_run_failure failure.Workers fails = absurd fails
as_run_failure (failure.Repository p) fails = absurd fails
as_run_failure failure.Stream fails = fails
as_run_failure (failure.Usage f) fails = absurd fails

pub has_no_answer : (line : Line) (input old new : Option (List ℕ)) (e : ProgramError)
    → (failure_code e ≡ 3 → IfSome input (IsRefusedBy line.word line.rounds e)) → Explains RunningJob e → (e ≢ failure.Stream → Keeps old new) → IsCutShort (Perform line) input old new
    → HasNoAnswer (Perform line) input old new e
has_no_answer line input old new (failure.Document f) refused fails silent cut = (line, refl, refused refl, silent (λ same. cc))
has_no_answer line input old new (failure.Plan f) refused fails silent cut = (line, refl, refused refl, silent (λ same. cc))
has_no_answer line input old new (failure.Saved f) refused fails silent cut = (line, refl, refused refl, silent (λ same. cc))
has_no_answer line input old new failure.Memory refused fails silent cut = silent (λ same. cc)
has_no_answer line input old new failure.Workers refused fails silent cut = silent (λ same. cc)
has_no_answer line input old new (failure.Repository p) refused fails silent cut = silent (λ same. cc)
has_no_answer line input old new failure.Stream refused fails silent cut = cut
has_no_answer line input old new (failure.Usage f) refused fails silent cut = absurd fails

refused_asked : (words : Option (List Text)) (request : Request) (input old new : Option (List ℕ)) (e : ProgramError) → IsAsked words request → IsRequestRefused request input old new e
    → IsWordRefused words input old new e
refused_asked words request input old new e asked refused = (refused.0, subst (IsAsked words) refused.1 asked, refused.2, refused.3)

-- the arguments ask for the request that has no answer
pub asked_failed : (words : Option (List Text)) (request : Request) (input old new : Option (List ℕ)) (e : ProgramError) → IsAsked words request → HasNoAnswer request input old new e
    → HasFailed words input old new e
asked_failed words request input old new (failure.Document f) asked refused = refused_asked words request input old new (failure.Document f) asked refused
asked_failed words request input old new (failure.Plan f) asked refused = refused_asked words request input old new (failure.Plan f) asked refused
asked_failed words request input old new (failure.Saved f) asked refused = refused_asked words request input old new (failure.Saved f) asked refused
asked_failed words request input old new failure.Memory asked kept = kept
asked_failed words request input old new failure.Workers asked kept = kept
asked_failed words request input old new (failure.Repository p) asked kept = kept
asked_failed words request input old new failure.Stream asked cut = (request, asked, cut)
asked_failed words request input old new (failure.Usage f) asked none = absurd none

pub result_failed : (r : Result ℕ ProgramError) (words : Option (List Text)) (request : Request) (input old new : Option (List ℕ)) → IsAsked words request → IfErr r (HasNoAnswer request input old new)
    → IfErr r (HasFailed words input old new)
result_failed (Ok s) words request input old new asked none = tt
result_failed (Err e) words request input old new asked none = asked_failed words request input old new e asked none

-- without a request nothing is written
pub no_request_failed : (words : Option (List Text)) (input old : Option (List ℕ)) (e : ProgramError) → HasNoRequest words e → HasFailed words input old old e
no_request_failed words input old (failure.Usage f) wrong = (wrong, Keeps-refl old)
no_request_failed words input old failure.Memory wrong = Keeps-refl old
no_request_failed words input old (failure.Document f) wrong = absurd wrong
no_request_failed words input old (failure.Plan f) wrong = absurd wrong
no_request_failed words input old (failure.Saved f) wrong = absurd wrong
no_request_failed words input old failure.Workers wrong = absurd wrong
no_request_failed words input old (failure.Repository p) wrong = absurd wrong
no_request_failed words input old failure.Stream wrong = absurd wrong

-- what follows of a failure
pub err-four : {P Q R S T : ProgramError → Type 0} (r : Result ℕ ProgramError) → ((e : ProgramError) → P e → Q e → R e → S e → T e) → IfErr r P → IfErr r Q → IfErr r R → IfErr r S → IfErr r T
err-four (Ok x) f p q t s = tt
err-four (Err e) f p q t s = f e p q t s

pub err-five : {P Q R S T U : ProgramError → Type 0} (r : Result ℕ ProgramError) → ((e : ProgramError) → P e → Q e → R e → S e → T e → U e) → IfErr r P → IfErr r Q → IfErr r R → IfErr r S → IfErr r T → IfErr r U
err-five (Ok x) f p q t s u = tt
err-five (Err e) f p q t s u = f e p q t s u

pub err-six : {P Q R S T U V : ProgramError → Type 0} (r : Result ℕ ProgramError) → ((e : ProgramError) → P e → Q e → R e → S e → T e → U e → V e) → IfErr r P → IfErr r Q → IfErr r R → IfErr r S → IfErr r T → IfErr r U → IfErr r V
err-six (Ok x) f p q t s u v = tt
err-six (Err e) f p q t s u v = f e p q t s u v

-- a status past those of an answer is that of a failure
pub failure_by_status : {P Q : ProgramError → Type 0} (r : Result ℕ ProgramError) (status : ℕ) → IfOk r (λ s. status ≡ s) → IfOk r (λ s. s < 3) → IfErr r P → IfErr r Q → 3 ≤ status → (e : ProgramError) × P e × Q e
failure_by_status (Ok s) status reported below p q past = absurd (omega (arith, reported, below, past))
failure_by_status (Err e) status reported below p q past = (e, p, q)
