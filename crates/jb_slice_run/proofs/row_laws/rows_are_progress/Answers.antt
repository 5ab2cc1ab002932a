use Rattle.jb_slice_run.proofs.{RowsEnded.{ends-of, even-order, idle-placed, restarted-placed, stamps-of, steps-divide, stops-named}, RowsGrown.{first-follow, grown-is, have-rows, later-follow}, RowsSoFar.{rows-so-far, so-far-rows}}
use Rattle.jb_slice_run.proofs.row_laws.rows_are_progress.Goals as goal

pub returns : goal.returns
returns c =
    let law = c.rules_are_kept.ensures in
    search (rows-so-far law.items, so-far-rows law.items, have-rows, stops-named law.stopped, even-order, idle-placed, restarted-placed, grown-is law.items, first-follow law.items, later-follow law.items, ends-of, stamps-of, steps-divide)
