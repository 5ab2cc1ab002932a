use Rattle.std.proofs.Common.{◌≡◌, None, Option, List, slice_index_or, arith, ap, sym, ◌∙◌}
use Rattle.std.specs.Prelude.{option_map}
use Rattle.std.specs.Option.{option_map_or}
use Rattle.jb_rules.specs.declared.row.Row.{Row}
use Rattle.jb_chunk.specs.TaskState.{TaskState}
use Rattle.jb_step.specs.Tables.{ArePlaced, held_in}
use Rattle.jb_step.specs.preparing.Setup.{row_now}
use Rattle.jb_step.specs.inside.table.Places.{table_in}
use Rattle.jb_step.proofs.table.Held.{at-map}
use Rattle.jb_step.proofs.table.Rows.{row-at, row_of}
use Rattle.jb_step.proofs.rounds.plan.row_of.Goals as goal

-- the row of a partition, by what stands in its place
by-place : {T : Type 0} (task_state : T → TaskState) (held : List (Option T)) (p : _) (row : Row) (o : Option T) → ArePlaced 0 (table_in task_state held) → o ≡ slice_index_or held p None
    → option_map_or row_of (option_map task_state o) row ≡ row_now (held_in (table_in task_state held)) p row
by-place task_state held p row o placed is =
    ap (λ (o : Option _). option_map_or row_of (option_map task_state o) row) is ∙ ap (λ (o : Option TaskState). option_map_or row_of o row) (sym (at-map task_state held p)) ∙ sym (row-at (table_in task_state held) p row placed)

pub returns-in-Some-place : goal.returns-in-Some-place
returns-in-Some-place g c =
    let here : c.in-Some.place.now ≡ slice_index_or c.args.held.now c.args.partition None = c.in-Some.ensures.lookup.4 (omega arith) None in
    c.row.ensures ∙ by-place g.T.PartitionTask.task_state c.args.held.now c.args.partition c.args.row.now _ c.requires (sym c.in-Some-place.is ∙ here)

pub returns-in-None-place : goal.returns-in-None-place
returns-in-None-place g c =
    let here : c.in-Some.place.now ≡ slice_index_or c.args.held.now c.args.partition None = c.in-Some.ensures.lookup.4 (omega arith) None in
    by-place g.T.PartitionTask.task_state c.args.held.now c.args.partition c.args.row.now _ c.requires (sym c.in-None-place.is ∙ here)

pub returns-in-None : goal.returns-in-None
returns-in-None g c =
    let here : None ≡ slice_index_or c.args.held.now c.args.partition None = c.in-None.ensures.lookup.4 (omega arith) None in
    by-place g.T.PartitionTask.task_state c.args.held.now c.args.partition c.args.row.now None c.requires here
