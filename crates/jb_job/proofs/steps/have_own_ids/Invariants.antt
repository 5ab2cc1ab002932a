use Rattle.std.proofs.Common.{take}
use Rattle.jb_job.specs.Kept.{HaveOwnIds}
use Rattle.jb_job.proofs.steps.have_own_ids.Given as goal

-- the steps so far have own ids
abbrev pub invariant-loop-i : goal.invariant-loop-i
invariant-loop-i l = HaveOwnIds (take l.i l.steps)
