-- What the program leaves of a reader that remembers what it gave, and of a writer.
use Rattle.std.specs.Prelude.{◌⊎◌, ℕ, List, Option, Some}
use Rattle.std.specs.Io.KnownBytes.{Keeps}
use Rattle.clap.specs.Words.{Text}
use Rattle.jb_streams.specs.declared.recorded.Recorded.{Recorded}
use Rattle.jb_streams.specs.Recorded.{IsRead, IsUnread}
use Rattle.jb_program.specs.declared.words.request.Line.{Line}
use Rattle.jb_program.specs.declared.words.request.Request.{Request}
use Rattle.jb_program.specs.declared.words.request.Request.TheVariants.{Help, Version, Perform}
use Rattle.jb_program.specs.declared.streams.error.ProgramError.{ProgramError}
use Rattle.jb_program.specs.declared.streams.error.ProgramError.TheVariants as failure
use Rattle.jb_program.specs.Answer.{IsAnswer, IsAnswerFront, IsRefusedBy}
use Rattle.jb_program.specs.CommandLine.{IsWrong}
use Rattle.jb_program.specs.Failures.{IsAsked}

module _ {R : Type 0} where
  -- The reader was read to its end, and this is all that it gave. For help and for the version nothing was read.
  abbrev pub IsInputOf : Request → (before after : Recorded R) → (input : List ℕ) → Type 0
  IsInputOf (Perform line) before after input = IsRead before after input
  IsInputOf (Help topic) before after input = IsUnread before after
  IsInputOf Version before after input = IsUnread before after

  -- The writer holds the answer to what was read, whole.
  abbrev pub IsAnswered : (words : Option (List Text)) → (before after : Recorded R) → (old new : Option (List ℕ)) → (status : ℕ) → Type 0
  IsAnswered words before after old new status = (request : Request) × (input : List ℕ) × IsAsked words request × IsInputOf request before after input × IsAnswer request (Some input) old new status

  -- A subcommand refuses what was read to its end, and nothing is written.
  abbrev pub IsRefused : (words : Option (List Text)) → (before after : Recorded R) → (old new : Option (List ℕ)) → ProgramError → Type 0
  IsRefused words before after old new e = (line : Line) × (input : List ℕ) × IsAsked words (Perform line) × IsRead before after input × IsRefusedBy line.word line.rounds e input × Keeps old new

  -- A stream failed. The writer holds nothing, or the front of the answer to what was read to its end.
  abbrev pub IsCutOff : (words : Option (List Text)) → (before after : Recorded R) → (old new : Option (List ℕ)) → Type 0
  IsCutOff words before after old new = (request : Request) × IsAsked words request × (Keeps old new ⊎ ((input : List ℕ) × IsInputOf request before after input × IsAnswerFront request (Some input) old new))

  -- Why there is no answer. With wrong arguments nothing was read. Only if a stream failed may the writer hold anything.
  abbrev pub IsUnanswered : (words : Option (List Text)) → (before after : Recorded R) → (old new : Option (List ℕ)) → ProgramError → Type 0
  IsUnanswered words before after old new (failure.Usage fault) = IsWrong fault words × IsUnread before after × Keeps old new
  IsUnanswered words before after old new (failure.Document fault) = IsRefused words before after old new (failure.Document fault)
  IsUnanswered words before after old new (failure.Plan error) = IsRefused words before after old new (failure.Plan error)
  IsUnanswered words before after old new (failure.Saved place) = IsRefused words before after old new (failure.Saved place)
  IsUnanswered words before after old new failure.Memory = Keeps old new
  IsUnanswered words before after old new failure.Workers = Keeps old new
  IsUnanswered words before after old new (failure.Repository partition) = Keeps old new
  IsUnanswered words before after old new failure.Stream = IsCutOff words before after old new
