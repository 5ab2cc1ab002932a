use Rattle.std.proofs.Common.{◌↔◌, map, drop}
use Rattle.jb_step.specs.preparing.Prepare.{FitRows}
use Rattle.jb_step.specs.preparing.Setup.{unfinished}
use Rattle.jb_step.specs.inside.preparing.Starting.{unfinished_from}
use Rattle.jb_step.proofs.preparing.start.fit_rows.Given as goal

abbrev pub invariant-loop-row : goal.invariant-loop-row
invariant-loop-row g l =
    let artifacts = g.T.Artifacts.Meaning.meaning in
    FitRows (unfinished_from l.row-index (drop l.row-index l.rows)) (map artifacts l.left) ↔ FitRows (unfinished l.rows) (map artifacts l.artifacts)
