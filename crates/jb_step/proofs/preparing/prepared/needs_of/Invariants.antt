use Rattle.std.proofs.Common.{◌≡◌, ◌++◌, map, drop}
use Rattle.jb_step.specs.preparing.Setup.{needs}
use Rattle.jb_step.specs.inside.preparing.Starting.{unfinished_from}
use Rattle.jb_step.proofs.preparing.prepared.needs_of.Given as goal

abbrev pub invariant-loop-partition : goal.invariant-loop-partition
invariant-loop-partition l = l.needs.items ++ map (λ n. n.0) (unfinished_from l.partition (drop l.partition l.rows)) ≡ needs l.rows
