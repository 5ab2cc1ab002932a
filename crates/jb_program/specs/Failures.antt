-- What the program leaves without an answer: why it has none, what the writer then holds, and what is reported of it.
use Rattle.std.specs.Prelude.{◌≡◌, ℕ, ◌⊎◌, List, Option, IfSome, IsSomeAnd, ⊤}
use Rattle.std.specs.Io.KnownBytes.{Appends, Keeps}
use Rattle.clap.specs.Words.{Text}
use Rattle.jb_texts.specs.Front.{AppendsFront}
use Rattle.jb_program.specs.declared.words.request.Line.{Line}
use Rattle.jb_program.specs.declared.words.request.Request.{Request}
use Rattle.jb_program.specs.declared.words.request.Request.TheVariants.{Perform}
use Rattle.jb_program.specs.declared.streams.error.ProgramError.{ProgramError}
use Rattle.jb_program.specs.declared.streams.error.ProgramError.TheVariants as failure
use Rattle.jb_program.specs.Answer.{IsAnswerFront, IsRefusedBy}
use Rattle.jb_program.specs.CommandLine.{Asks, IsWrong}
use Rattle.jb_program.specs.FailureText.{failure_text}
use Rattle.jb_program.specs.Statuses.{failure_code}

-- There are arguments, and they ask for this.
abbrev pub IsAsked : (words : Option (List Text)) → Request → Type 0
IsAsked words request = IsSomeAnd words (λ given. Asks given request)

-- Why the arguments have no request: they ask for nothing, or there was no memory to read them.
abbrev pub HasNoRequest : (words : Option (List Text)) → ProgramError → Type 0
HasNoRequest words (failure.Usage fault) = IsWrong fault words
HasNoRequest words failure.Memory = ⊤
HasNoRequest words _ = ⊥

-- The answer isn't whole: the writer holds nothing of it, or its front.
abbrev pub IsCutShort : Request → (input old new : Option (List ℕ)) → Type 0
IsCutShort request input old new = Keeps old new ⊎ IsAnswerFront request input old new

-- A word refuses the bytes, and nothing is written.
abbrev pub IsWordRefused : (words : Option (List Text)) → (input old new : Option (List ℕ)) → ProgramError → Type 0
IsWordRefused words input old new e = (line : Line) × IsAsked words (Perform line) × IfSome input (IsRefusedBy line.word line.rounds e) × Keeps old new

-- Why there is no answer. Only where a stream failed may the writer hold anything, and that is the front of the answer.
abbrev pub HasFailed : (words : Option (List Text)) → (input old new : Option (List ℕ)) → ProgramError → Type 0
HasFailed words input old new (failure.Usage fault) = IsWrong fault words × Keeps old new
HasFailed words input old new (failure.Document fault) = IsWordRefused words input old new (failure.Document fault)
HasFailed words input old new (failure.Plan error) = IsWordRefused words input old new (failure.Plan error)
HasFailed words input old new (failure.Saved place) = IsWordRefused words input old new (failure.Saved place)
HasFailed words input old new failure.Memory = Keeps old new
HasFailed words input old new failure.Workers = Keeps old new
HasFailed words input old new (failure.Repository partition) = Keeps old new
HasFailed words input old new failure.Stream = (request : Request) × IsAsked words request × IsCutShort request input old new

-- A request with a document refuses the bytes, and nothing is written.
abbrev pub IsRequestRefused : Request → (input old new : Option (List ℕ)) → ProgramError → Type 0
IsRequestRefused request input old new e = (line : Line) × (request ≡ Perform line) × IfSome input (IsRefusedBy line.word line.rounds e) × Keeps old new

-- Why a request has no answer. Only where a stream failed may the writer hold anything.
abbrev pub HasNoAnswer : Request → (input old new : Option (List ℕ)) → ProgramError → Type 0
HasNoAnswer request input old new (failure.Usage fault) = ⊥
HasNoAnswer request input old new (failure.Document fault) = IsRequestRefused request input old new (failure.Document fault)
HasNoAnswer request input old new (failure.Plan error) = IsRequestRefused request input old new (failure.Plan error)
HasNoAnswer request input old new (failure.Saved place) = IsRequestRefused request input old new (failure.Saved place)
HasNoAnswer request input old new failure.Memory = Keeps old new
HasNoAnswer request input old new failure.Workers = Keeps old new
HasNoAnswer request input old new (failure.Repository partition) = Keeps old new
HasNoAnswer request input old new failure.Stream = IsCutShort request input old new

-- The failure is reported, and the status is its own. If a stream fails then, the front of its text may be there, and nothing else.
abbrev pub IsFailureReported : ProgramError → (old new : Option (List ℕ)) → (status : ℕ) → Type 0
IsFailureReported e old new status = (Appends old new (failure_text e) × (status ≡ failure_code e)) ⊎ (AppendsFront old new (failure_text e) × (status ≡ failure_code failure.Stream))
