use Rattle.std.proofs.Common.{◌≡◌, None}
use Rattle.jb_workers.specs.inside.Gathered.{AreAllDone, IsFoundIn}
use Rattle.jb_workers.proofs.round.report.all_done.Given as goal

-- while none was refused the attempts are all there; and the refusal found so far is that of the lowest lane
abbrev pub invariant-loop-lane : goal.invariant-loop-lane
invariant-loop-lane g l = (l.refused ≡ None → AreAllDone l.yielded l.dones.items) × IsFoundIn l.yielded l.refused
