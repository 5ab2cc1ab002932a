-- The event by which an attempt enters the history, and what the book counts of it (this project's own choice).
use Rattle.std.specs.Prelude.{ℕ, if◌then◌else◌, List}
use Rattle.jb_chunk.specs.declared.outcome.Outcome.{Outcome}
use Rattle.jb_chunk.specs.declared.outcome.Outcome.TheVariants.{Committed, Rolled, Failed, NoMemory}
use Rattle.jb_repo.specs.Deltas.{delta_of}
use Rattle.jb_repo.specs.declared.events.Event.{Event}
use Rattle.jb_repo.specs.declared.events.Event.TheVariants.{Commit, Roll, Fail, Drop}
use Rattle.jb_repo.specs.History.{is_commit_event, number}

-- the event by which a lane's attempt enters the history; `written` is the row's number of results after the attempt, `again`
-- how often it repeated a call in place
abbrev pub event_of : (lane : ℕ) → Outcome → (written again : ℕ) → Event
event_of lane (Committed counts) written again = Commit lane (delta_of counts) written again
event_of lane (Rolled class) written again = Roll lane class again
event_of lane (Failed class) written again = Fail lane class again
event_of lane NoMemory written again = Drop lane

-- the number of Commits of a history
abbrev pub commits : List Event → ℕ
commits past = number is_commit_event past

-- what an event adds to it
abbrev pub commit_in : Event → ℕ
commit_in e = if is_commit_event e then 1 else 0

-- 1 for an attempt that is committed
abbrev pub commit_of : Outcome → ℕ
commit_of (Committed delta) = 1
commit_of (Rolled class) = 0
commit_of (Failed class) = 0
commit_of NoMemory = 0
