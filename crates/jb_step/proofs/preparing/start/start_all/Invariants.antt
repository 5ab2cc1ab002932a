use Rattle.std.proofs.Common.{◌≡◌, ◌++◌, length, map, drop}
use Rattle.std.specs.Vec.Iter.{into_iter_items}
use Rattle.jb_step.specs.preparing.Prepare.{FitRows}
use Rattle.jb_step.specs.Tables.{ArePlaced, held_in}
use Rattle.jb_step.specs.inside.table.Places.{table_in}
use Rattle.jb_step.specs.inside.preparing.Starting.{tasks_from, unfinished_from}
use Rattle.jb_step.proofs.preparing.start.start_all.Given as goal

abbrev pub invariant-loop-row : goal.invariant-loop-row
invariant-loop-row g l =
    (length l.tasks.items ≡ l.row-index)
    × ArePlaced 0 (table_in g.T.PartitionTask.task_state l.tasks.items)
    × FitRows (unfinished_from l.row-index (drop l.row-index l.rows)) (map g.T.Artifacts.Meaning.meaning (into_iter_items l.artifacts))
    × (held_in (table_in g.T.PartitionTask.task_state l.tasks.items) ++ tasks_from l.prepared l.row-index (drop l.row-index l.rows) (map g.T.Artifacts.Meaning.meaning (into_iter_items l.artifacts))
    ≡ tasks_from l.prepared 0 l.rows (map g.T.Artifacts.Meaning.meaning l.fn.artifacts.items))
