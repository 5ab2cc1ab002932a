-- What the program leaves of its three streams.
use Rattle.std.specs.Prelude.{◌≡◌, ◌<◌, ◌≤◌, ℕ, List, Option, Some}
use Rattle.clap.specs.Words.{Text}
use Rattle.jb_streams.specs.Recorded.{IsUnread}
use Rattle.jb_streams.specs.Recording.{taken_of}
use Rattle.jb_program.specs.declared.streams.error.ProgramError.{ProgramError}
use Rattle.jb_program.specs.declared.words.request.Line.{Line}
use Rattle.jb_program.specs.declared.words.request.Request.TheVariants.{Perform}
use Rattle.jb_program.specs.Failures.{IsAsked, IsFailureReported}
use Rattle.jb_process.specs.Recorded.{IsAnswered, IsUnanswered}
use Rattle.batchrun.specs.declared.apart.Streams.{Streams}

-- Below status 3 it is an answer: standard output accepted it, whole, and nothing more is reported.
abbrev pub IsWhole : (words : Option (List Text)) → (old new : Streams) → (status : ℕ) → Type 0
IsWhole words old new status =
    IsAnswered words old.reader new.reader (Some (taken_of old.writer)) (Some (taken_of new.writer)) status × (taken_of new.fault_writer ≡ taken_of old.fault_writer)

-- From status 3 on there is none, and it is reported why.
abbrev pub IsRefused : (words : Option (List Text)) → (old new : Streams) → (status : ℕ) → Type 0
IsRefused words old new status =
    (failure : ProgramError)
    × IsUnanswered words old.reader new.reader (Some (taken_of old.writer)) (Some (taken_of new.writer)) failure
    × IsFailureReported failure (Some (taken_of old.fault_writer)) (Some (taken_of new.fault_writer)) status

-- All of it. Nothing is read if no document is asked for.
abbrev pub IsPerformed : (words : Option (List Text)) → (old new : Streams) → (status : ℕ) → Type 0
IsPerformed words old new status =
    (status < 3 → IsWhole words old new status)
    × (3 ≤ status → IsRefused words old new status)
    × (status ≤ 5)
    × (((line : Line) → IsAsked words (Perform line) → ⊥) → IsUnread old.reader new.reader)
