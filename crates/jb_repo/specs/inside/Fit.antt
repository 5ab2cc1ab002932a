-- Counts that a program can hold.
use Rattle.std.specs.Prelude.{◌<◌, ◌^◌}
use Rattle.jb_rules.specs.declared.counts.Counts.{Counts}

-- each of the eight numbers is a number of the program
pub record CountsFit (c : Counts) : Type 0 where
  pub read : c.read < 2 ^ 64
  pub write : c.write < 2 ^ 64
  pub commit : c.commit < 2 ^ 64
  pub rollback : c.rollback < 2 ^ 64
  pub read_skip : c.read_skip < 2 ^ 64
  pub process_skip : c.process_skip < 2 ^ 64
  pub filter : c.filter < 2 ^ 64
  pub write_skip : c.write_skip < 2 ^ 64
