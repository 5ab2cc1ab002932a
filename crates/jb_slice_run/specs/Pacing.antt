-- How many rounds an interval will take.
use Rattle.std.specs.Prelude.{ℕ}
use Rattle.jb_slice_run.specs.declared.pace.ASecond.{ASecond}

module _ {C : Type 0} where
  -- The number of rounds of the next interval.
  abbrev pub rounds_of : ASecond C → ℕ
  rounds_of pace = pace.rounds
