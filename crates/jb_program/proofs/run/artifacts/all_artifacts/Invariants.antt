use Rattle.std.proofs.Common.{◌≡◌, ◌++◌, drop, map}
use Rattle.std.specs.Arc.{arc_value}
use Rattle.jb_step.specs.preparing.Setup.{unfinished}
use Rattle.jb_program.specs.PartitionRun.{opening_artifacts_for}
use Rattle.jb_program.proofs.Own.{own_artifacts}
use Rattle.jb_program.proofs.run.artifacts.all_artifacts.Given as goal

-- those that were made and those to come
abbrev pub invariant-loop-place : goal.invariant-loop-place
invariant-loop-place l =
    map own_artifacts l.all.items ++ map (opening_artifacts_for l.step (arc_value l.shared) l.outputs) (drop l.place (unfinished l.prepared.rows))
    ≡ map (opening_artifacts_for l.step (arc_value l.shared) l.outputs) (unfinished l.prepared.rows)
