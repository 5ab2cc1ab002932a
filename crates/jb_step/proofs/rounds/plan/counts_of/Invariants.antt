use Rattle.std.proofs.Common.{◌≡◌, ◌++◌, map, drop}
use Rattle.std.specs.List.{enumerate_from}
use Rattle.jb_repo.specs.Rows.{remaining}
use Rattle.jb_step.specs.preparing.Setup.{counts_now, row_now}
use Rattle.jb_step.specs.Tables.{held_in}
use Rattle.jb_step.specs.inside.table.Places.{table_in}
use Rattle.jb_step.proofs.rounds.plan.counts_of.Given as goal

abbrev pub invariant-loop-partition : goal.invariant-loop-partition
invariant-loop-partition g l =
    let table = table_in g.T.PartitionTask.task_state l.held in
    l.counts.items ++ remaining l.item_count (map (λ n. row_now (held_in table) n.0 n.1) (enumerate_from l.partition (drop l.partition l.rows))) ≡ counts_now l.prepared table
