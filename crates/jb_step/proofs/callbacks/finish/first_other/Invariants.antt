use Rattle.std.proofs.Common.{◌≡◌, map, drop}
use Rattle.std.specs.List.{enumerate_from}
use Rattle.jb_step.specs.preparing.Setup.{row_now, rows_now}
use Rattle.jb_step.specs.Tables.{held_in}
use Rattle.jb_step.specs.inside.table.Places.{table_in}
use Rattle.jb_step.proofs.callbacks.finish.first_other.Given as goal

-- where the other rows are as they are shown, all are
abbrev pub invariant-loop-index : goal.invariant-loop-index
invariant-loop-index g l =
    let ts = held_in (table_in g.T.PartitionTask.task_state l.held) in
    drop l.index l.shown ≡ map (λ n. row_now ts n.0 n.1) (enumerate_from l.index (drop l.index l.rows)) → l.shown ≡ rows_now l.rows ts
