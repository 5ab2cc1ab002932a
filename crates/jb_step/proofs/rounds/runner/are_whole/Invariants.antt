use Rattle.std.proofs.Common.{drop}
use Rattle.jb_step.specs.inside.rounds.Round.{AreWhole}
use Rattle.jb_step.proofs.rounds.runner.are_whole.Given as goal

-- where the other attempts had memory, all had it
abbrev pub invariant-loop-done : goal.invariant-loop-done
invariant-loop-done g l = AreWhole (drop l.done-index l.dones) → AreWhole l.dones
