use Rattle.std.proofs.Common.{take}
use Rattle.jb_ready.proofs.ClassSets.{IsListed}
use Rattle.jb_ready.proofs.classes.Classes.of.Given as goal

-- the set has the classes so far
abbrev pub invariant-loop-class : goal.invariant-loop-class
invariant-loop-class l = IsListed l.bits (take l.class-index l.classes)
