-- The sums of sound rows fit their words.
use Rattle.std.proofs.Common.{◌≡◌, ℕ, suc, ◌*◌, ◌≤◌, List, [], ◌∷◌, length, slice_get, Some, refl, arith}
use Rattle.jb_rules.specs.declared.counts.Counts.{Counts}
use Rattle.jb_rules.specs.declared.row.Row.{Row}
use Rattle.jb_rules.specs.Sound.{IsSoundRow}
use Rattle.jb_repo.specs.inside.Fit.{CountsFit}
use Rattle.jb_repo.specs.Rows.{total_counts}
use Rattle.jb_base.specs.Limits.{max_partitions, max_rollbacks}

-- each of the eight numbers is at most n
record UpTo (c : Counts) (n : ℕ) : Type 0 where
  read : c.read ≤ n
  write : c.write ≤ n
  commit : c.commit ≤ n
  rollback : c.rollback ≤ n
  read_skip : c.read_skip ≤ n
  process_skip : c.process_skip ≤ n
  filter : c.filter ≤ n
  write_skip : c.write_skip ≤ n

row_counts : (r : Row) → IsSoundRow r → UpTo r.counts max_rollbacks
row_counts r sound =
    let p = sound.placed in
    let c = sound.counted in
    record {
      read = omega (arith, c.passed, p.at_to, p.records);
      write = omega (arith, c.passed, p.at_to, p.records, c.settled);
      commit = omega (arith, c.commits, p.at_to, p.records);
      rollback = c.rolled;
      read_skip = omega (arith, c.passed, p.at_to, p.records);
      process_skip = omega (arith, c.passed, p.at_to, p.records, c.settled);
      filter = omega (arith, c.passed, p.at_to, p.records, c.settled);
      write_skip = omega (arith, c.write_skips, c.commits, p.at_to, p.records);
    }

counts_up_to : (rows : List Row) → ((i : ℕ) (r : Row) → slice_get rows i ≡ Some r → IsSoundRow r) → UpTo (total_counts rows) (max_rollbacks * length rows)
counts_up_to [] sound = record {
  read = omega arith;
  write = omega arith;
  commit = omega arith;
  rollback = omega arith;
  read_skip = omega arith;
  process_skip = omega arith;
  filter = omega arith;
  write_skip = omega arith;
}
counts_up_to (r ∷ rows) sound =
    let h = row_counts r (sound 0 r refl) in
    let t = counts_up_to rows (λ i s o. sound (suc i) s o) in
    record {
      read = omega (arith, h.read, t.read);
      write = omega (arith, h.write, t.write);
      commit = omega (arith, h.commit, t.commit);
      rollback = omega (arith, h.rollback, t.rollback);
      read_skip = omega (arith, h.read_skip, t.read_skip);
      process_skip = omega (arith, h.process_skip, t.process_skip);
      filter = omega (arith, h.filter, t.filter);
      write_skip = omega (arith, h.write_skip, t.write_skip);
    }

pub totals_fit : (rows : List Row) → length rows ≤ max_partitions → ((i : ℕ) (r : Row) → slice_get rows i ≡ Some r → IsSoundRow r) → CountsFit (total_counts rows)
totals_fit rows few sound =
    let u = counts_up_to rows sound in
    record {
      read = omega (arith, u.read);
      write = omega (arith, u.write);
      commit = omega (arith, u.commit);
      rollback = omega (arith, u.rollback);
      read_skip = omega (arith, u.read_skip);
      process_skip = omega (arith, u.process_skip);
      filter = omega (arith, u.filter);
      write_skip = omega (arith, u.write_skip);
    }
