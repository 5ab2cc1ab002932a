-- What a repository is opened with has to do neither with its history nor with its room.
use Rattle.std.proofs.Common.{ℕ, List}
use Rattle.jb_repo.specs.declared.events.Event.{Event}
use Rattle.jb_repo.specs.Table.{Journal}
use Rattle.jb_repo.specs.Openable.{IsOpenable}

pub still_openable : (j : Journal) (past : List Event) (room : ℕ) → IsOpenable j → IsOpenable (record j { past = past; room = room })
still_openable j past room r = record {
  some_rows = r.some_rows;
  few_rows = r.few_rows;
  idle = r.idle;
  disjoint = r.disjoint;
  some_threads = r.some_threads;
  few_threads = r.few_threads;
  some_items = r.some_items;
  few_items = r.few_items;
}
