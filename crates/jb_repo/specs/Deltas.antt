-- What a commit adds to the counts, as a history keeps it: in numbers of 32 bits (this project's own choice).
use Rattle.std.specs.Prelude.{◌<◌, ◌^◌}
use Rattle.jb_rules.specs.declared.counts.Counts.{Counts}
use Rattle.jb_repo.specs.declared.deltas.Delta.{Delta}

-- the counts that a delta adds
abbrev pub counts_in : Delta → Counts
counts_in d = record {
  read = d.read;
  write = d.write;
  commit = d.commit;
  rollback = d.rollback;
  read_skip = d.read_skip;
  process_skip = d.process_skip;
  filter = d.filter;
  write_skip = d.write_skip;
}

-- the delta that adds these counts
abbrev pub delta_of : Counts → Delta
delta_of c = record {
  read = c.read;
  write = c.write;
  commit = c.commit;
  rollback = c.rollback;
  read_skip = c.read_skip;
  process_skip = c.process_skip;
  filter = c.filter;
  write_skip = c.write_skip;
}

-- There is one: each of the eight numbers has 32 bits at most
pub record FitDelta (c : Counts) : Type 0 where
  pub read : c.read < 2 ^ 32
  pub write : c.write < 2 ^ 32
  pub commit : c.commit < 2 ^ 32
  pub rollback : c.rollback < 2 ^ 32
  pub read_skip : c.read_skip < 2 ^ 32
  pub process_skip : c.process_skip < 2 ^ 32
  pub filter : c.filter < 2 ^ 32
  pub write_skip : c.write_skip < 2 ^ 32
