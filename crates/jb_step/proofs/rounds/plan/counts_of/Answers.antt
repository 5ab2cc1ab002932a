use Rattle.std.proofs.Common.{ap, ◌∙◌}
use Rattle.jb_rules.specs.Rows.{remaining_of}
use Rattle.jb_rules.specs.declared.row.Row.{Row}
use Rattle.jb_step.specs.Tables.{held_in}
use Rattle.jb_step.specs.preparing.Setup.{row_now}
use Rattle.jb_step.specs.inside.table.Places.{table_in}
use Rattle.jb_step.proofs.beginning.Opening.{all-counted, count-more, now-sound-at}
use Rattle.jb_step.proofs.rounds.plan.counts_of.Goals as goal

pub remaining-requires-clause-sound : goal.remaining-requires-clause-sound
remaining-requires-clause-sound g c =
    now-sound-at c.args.prepared.now (held_in (table_in g.T.PartitionTask.task_state c.args.held.now)) c.begun_rows-rows.result.now c.loop-partition.partition _ c.row_of-now.result.now
    c.loop-partition-test.true c.begun_rows-rows.ensures.begun c.requires.tasks c.row_of-now.ensures

pub loop-partition-preserved : goal.loop-partition-preserved
loop-partition-preserved g c =
    let tasks = held_in (table_in g.T.PartitionTask.task_state c.args.held.now) in
    let item_count = c.item_count-item_count.result in
    count-more item_count (λ n. row_now tasks n.0 n.1) c.begun_rows-rows.result.now c.loop-partition.partition _ c.loop-partition.counts.items _ _ c.remaining.result c.loop-partition-test.true c.loop-partition.invariant
    c.in_ok-push.ensures.items (c.remaining.ensures ∙ ap (λ (row : Row). remaining_of item_count row row.state) c.row_of-now.ensures)

pub returns : goal.returns
returns g c =
    let tasks = held_in (table_in g.T.PartitionTask.task_state c.args.held.now) in
    all-counted c.item_count-item_count.result (λ n. row_now tasks n.0 n.1) c.begun_rows-rows.result.now c.loop-partition.partition _ _ c.loop-partition-test.false c.loop-partition.invariant
