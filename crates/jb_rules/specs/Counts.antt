-- The counts of a chunk step, and what a chunk may add to them.
use Rattle.std.specs.Prelude.{ℕ, ◌≡◌, ◌+◌, ◌==◌, ◌<◌, ◌^◌, ◌⊎◌, ◌&&◌, ◌||◌, nat_lt, Bool}
use Rattle.jb_rules.specs.declared.counts.Counts.{Counts}

abbrev pub no_counts : Counts
no_counts = record {
  read = 0;
  write = 0;
  commit = 0;
  rollback = 0;
  read_skip = 0;
  process_skip = 0;
  filter = 0;
  write_skip = 0;
}

-- the sums, number by number
abbrev pub plus_counts : Counts → Counts → Counts
plus_counts a b = record {
  read = a.read + b.read;
  write = a.write + b.write;
  commit = a.commit + b.commit;
  rollback = a.rollback + b.rollback;
  read_skip = a.read_skip + b.read_skip;
  process_skip = a.process_skip + b.process_skip;
  filter = a.filter + b.filter;
  write_skip = a.write_skip + b.write_skip;
}

-- the counts after one more rollback
abbrev pub rolled_counts : Counts → Counts
rolled_counts c = record c { rollback = c.rollback + 1 }

-- each sum fits in 64 bits
pub record SumsFit (a b : Counts) : Type 0 where
  pub read : a.read + b.read < 2 ^ 64
  pub write : a.write + b.write < 2 ^ 64
  pub commit : a.commit + b.commit < 2 ^ 64
  pub rollback : a.rollback + b.rollback < 2 ^ 64
  pub read_skip : a.read_skip + b.read_skip < 2 ^ 64
  pub process_skip : a.process_skip + b.process_skip < 2 ^ 64
  pub filter : a.filter + b.filter < 2 ^ 64
  pub write_skip : a.write_skip + b.write_skip < 2 ^ 64

-- What a committed chunk of so many records adds to the counts. Each record is read or its read skipped. Either each item
-- read has its process call skipped, is filtered or is written; or the write call is skipped with all its results, at
-- least one.
pub record IsDelta (records : ℕ) (d : Counts) : Type 0 where
  pub passed : d.read + d.read_skip ≡ records
  pub commit : d.commit ≡ 1
  pub rollback : d.rollback ≡ 0
  pub results :
      (d.write_skip ≡ 0) × (d.process_skip + d.filter + d.write ≡ d.read)
      ⊎ (d.write_skip ≡ 1) × (d.write ≡ 0) × (d.process_skip + d.filter < d.read)

-- the same as a test
abbrev pub is_delta : (records : ℕ) → Counts → Bool
is_delta records d =
    d.read + d.read_skip == records
    && d.commit == 1
    && d.rollback == 0
    && ((d.write_skip == 0 && d.process_skip + d.filter + d.write == d.read)
    || (d.write_skip == 1 && d.write == 0 && nat_lt (d.process_skip + d.filter) d.read))
