-- What a repository's fields mean, and what always holds of them.
use Rattle.std.specs.Prelude.{◌≤◌, ◌+◌, length, reverse, vec_capacity}
use Rattle.jb_base.specs.Limits.{max_events}
use Rattle.jb_repo.specs.declared.repository.Repo.TheInside.{Inside}
use Rattle.jb_repo.specs.Table.{Journal, reserved, Accepted}
use Rattle.jb_repo.specs.Answers.{HasPlaces}
use Rattle.jb_repo.specs.Openable.{IsOpenable}
use Rattle.jb_repo.specs.inside.Projection.{Shows}

abbrev pub journal_of : Inside → Journal
journal_of a = record {
  opening = a.opening.items;
  threads = a.threads;
  item_count = a.item_count;
  past = reverse a.history.items;
  room = vec_capacity a.history;
}

pub record IsRepresentation (a : Inside) : Type 0 where
  pub ready : IsOpenable (journal_of a)
  pub accepted : Accepted (journal_of a)
  pub places : HasPlaces (journal_of a)
  pub few : length (journal_of a).past + reserved (journal_of a) ≤ max_events
  pub shows : Shows (journal_of a) a.projection
