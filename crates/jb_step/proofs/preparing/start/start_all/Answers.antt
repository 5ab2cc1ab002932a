use Rattle.std.proofs.Common.{◌≡◌, List, length, map, arith, ap, sym, ◌∙◌, subst}
use Rattle.std.specs.Prelude.{option_map}
use Rattle.std.proofs.lemmas.List.{length-map}
use Rattle.jb_rules.specs.declared.row.Row.{Row}
use Rattle.jb_step.specs.preparing.Setup.{first_table, first_tasks}
use Rattle.jb_step.specs.Tables.{held_in}
use Rattle.jb_step.specs.inside.table.Places.{table_in}
use Rattle.jb_step.specs.inside.preparing.Starting.{tasks_from}
use Rattle.jb_step.specs.rounds.PlanLaws.{IsTaskTable}
use Rattle.jb_step.proofs.plans.Holding.{begins_with_table}
use Rattle.jb_step.proofs.table.Putting.{in-places}
use Rattle.jb_step.proofs.beginning.Opening.{all-started, begun-at, fit-at, one-more}
use Rattle.jb_step.proofs.preparing.start.start_all.Goals as goal

-- the rows are all gone through
started : (g : _) (c : goal.After-drop-artifacts-2 g) → held_in (table_in g.T.PartitionTask.task_state c.loop-row.tasks.items) ≡ first_tasks c.args.prepared.now (map g.T.Artifacts.Meaning.meaning c.args.artifacts.items)
started g c =
    all-started c.args.prepared.now (held_in (table_in g.T.PartitionTask.task_state c.loop-row.tasks.items)) _ c.begun_rows-rows.result.now c.loop-row.row-index _ (omega arith) c.loop-row.invariant.3
    ∙ ap (λ (rows : List Row). tasks_from c.args.prepared.now 0 rows (map g.T.Artifacts.Meaning.meaning c.args.artifacts.items)) c.begun_rows-rows.ensures.value

in-first : (g : _) (c : goal.After-drop-artifacts-2 g) → table_in g.T.PartitionTask.task_state c.loop-row.tasks.items ≡ first_table c.args.prepared.now (map g.T.Artifacts.Meaning.meaning c.args.artifacts.items)
in-first g c =
    let table = table_in g.T.PartitionTask.task_state c.loop-row.tasks.items in
    let long = length-map c.loop-row.tasks.items (option_map g.T.PartitionTask.task_state) in
    let many = c.loop-row.invariant.0 in
    let rows = ap length c.begun_rows-rows.ensures.value in
    sym (in-places c.args.prepared.now.rows _ table (omega (arith, long, many, rows)) c.loop-row.invariant.1 (started g c))

pub returns-clause-tasks : goal.returns-clause-tasks
returns-clause-tasks g c = in-first g c

pub returns-clause-held : goal.returns-clause-held
returns-clause-held g c = started g c

pub returns-clause-table : goal.returns-clause-table
returns-clause-table g c =
    let artifacts = map g.T.Artifacts.Meaning.meaning c.args.artifacts.items in
    subst (IsTaskTable c.args.prepared.now) (sym (in-first g c)) (begins_with_table c.args.prepared.now artifacts c.begun_rows-rows.ensures.setup c.requires).0

pub start_row-requires-clause-fit : goal.start_row-requires-clause-fit
start_row-requires-clause-fit g c κs bounds =
    fit-at c.begun_rows-rows.result.now c.loop-row.row-index _ _ _ c.loop-row-test.true c.loop-row.invariant.0 c.loop-row.invariant.2

pub start_row-requires-clause-begun : goal.start_row-requires-clause-begun
start_row-requires-clause-begun g c κs bounds =
    begun-at c.begun_rows-rows.result.now c.loop-row.row-index _ c.loop-row-test.true c.begun_rows-rows.ensures.begun

pub loop-row-preserved : goal.loop-row-preserved
loop-row-preserved g c =
    let more = one-more c.args.prepared.now c.begun_rows-rows.result.now c.loop-row.row-index _ _ _ _ _ _ _ _ c.loop-row-test.true c.loop-row.invariant.0 c.in_ok-start_row.ensures.length
    c.loop-row.invariant.2 c.loop-row.invariant.3 c.in_ok-start_row.ensures.fit c.in_ok-start_row.ensures.tasks in
    (more.long_is, c.in_ok-start_row.ensures.placed, more.fit, more.so_far)
