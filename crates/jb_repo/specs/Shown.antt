-- What a snapshot shows of a journal.
use Rattle.std.specs.Prelude.{◌≡◌, length}
use Rattle.jb_repo.specs.declared.snapshot.Snapshot.{Snapshot}
use Rattle.jb_repo.specs.History.{number, is_plan, is_stopping}
use Rattle.jb_repo.specs.Rows.{total_counts}
use Rattle.jb_repo.specs.Table.{Journal, rows_of}

-- the rows now and their sum, how many events and plans the history has, and whether it has a Stop
pub record IsSnapshot (j : Journal) (s : Snapshot) : Type 0 where
  pub rows : s.rows.items ≡ rows_of j
  pub totals : s.totals ≡ total_counts (rows_of j)
  pub events : s.events ≡ length j.past
  pub plans : s.plans ≡ number is_plan j.past
  pub stopping : s.stopping ≡ is_stopping j.past
