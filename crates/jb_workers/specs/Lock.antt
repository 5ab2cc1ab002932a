-- What holds each time that the lock is got, and what a turn of the lock answers.
use Rattle.std.specs.Prelude.{◌≡◌, ℕ, Option, None}
use Rattle.jb_base.specs.declared.class.ClassId.{ClassId}
use Rattle.jb_repo.specs.declared.events.Event.{Event}
use Rattle.jb_repo.specs.declared.refused.Refused.{Refused}
use Rattle.jb_repo.specs.declared.snapshot.Snapshot.{Snapshot}
use Rattle.jb_repo.specs.Answers.{IsRefusal}
use Rattle.jb_repo.specs.Openable.{IsReplayable}
use Rattle.jb_repo.specs.Shown.{IsSnapshot}
use Rattle.jb_repo.specs.Table.{Journal, refusal, failure}
use Rattle.jb_workers.specs.Events.{commits}

-- the history is accepted, so that the rows are those after it, and the book's number is its number of Commits
pub record IsBooked (journal : Journal) (total : ℕ) : Type 0 where
  pub replayable : IsReplayable journal
  pub counted : total ≡ commits journal.past

-- a snapshot of some repository with an accepted history
pub record IsSeen (snapshot : Snapshot) : Type 0 where
  pub journal : Journal
  pub replayable : IsReplayable journal
  pub shows : IsSnapshot journal snapshot

-- the class of the partition's last Fail, in some repository with an accepted history
pub record IsLastFail (partition : ℕ) (class : Option ClassId) : Type 0 where
  pub journal : Journal
  pub replayable : IsReplayable journal
  pub shows : class ≡ failure journal partition

-- some repository with an accepted history accepted the event
pub record IsAccepted (event : Event) : Type 0 where
  pub journal : Journal
  pub replayable : IsReplayable journal
  pub passes : refusal journal event ≡ None

-- some repository with an accepted history refused the event so
pub record IsRefused (event : Event) (refused : Refused) : Type 0 where
  pub journal : Journal
  pub replayable : IsReplayable journal
  pub refuses : IsRefusal journal event refused
