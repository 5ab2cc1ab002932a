use Rattle.jb_repo.proofs.repository.Repo.snapshot.Goals as goal

pub invariant_of-result : goal.invariant_of-result
invariant_of-result c = record {
  sound = rw (c.in_ok-rows.ensures.items, c.totals-totals.ensures, ← c.rows_now.ensures.rows) c.rows_now.ensures.table;
}
