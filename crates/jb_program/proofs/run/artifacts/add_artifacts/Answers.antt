use Rattle.std.proofs.Common.{◌≡◌, ◌+◌, ◌∷◌, drop, length, map, get_or, slice_get, Some, ap, sym, ◌∙◌}
use Rattle.std.specs.Arc.{arc_value}
use Rattle.std.specs.Option.{option_copied}
use Rattle.jb_step.specs.preparing.Setup.{needs, unfinished}
use Rattle.jb_rules.specs.Rows.{range_of}
use Rattle.jb_program.specs.PartitionRun.{records_in, opening_artifacts_for, opening_artifacts}
use Rattle.jb_program.proofs.Artifacts.{listed-at, next-row, no-row, artifacts-added, artifacts-more}
use Rattle.jb_program.proofs.run.artifacts.add_artifacts.Goals as goal

pub unreachable-requires : goal.unreachable-requires
unreachable-requires c =
    let rows = c.args.prepared.now.rows in
    let p = get_or c.needs.result.now c.args.place 0 in
    let listed : slice_get (needs rows) c.args.place ≡ Some p = listed-at c.needs.result.now (needs rows) c.args.place 0 c.requires.place c.needs.ensures in
    no-row rows (length (arc_value c.args.records.now)) c.args.place p c.requires.within listed (sym c.row.ensures ∙ ap option_copied c.in_default.is)

pub artifacts_of_row-requires : goal.artifacts_of_row-requires
artifacts_of_row-requires c =
    let rows = c.args.prepared.now.rows in
    let p = get_or c.needs.result.now c.args.place 0 in
    let listed : slice_get (needs rows) c.args.place ≡ Some p = listed-at c.needs.result.now (needs rows) c.args.place 0 c.requires.place c.needs.ensures in
    (next-row rows (length (arc_value c.args.records.now)) c.args.place p c.in-Some.row.now c.requires.within listed (sym c.row.ensures ∙ ap option_copied c.in-Some.is)).stands.within

pub returns : goal.returns
returns c =
    let rows = c.args.prepared.now.rows in
    let p = get_or c.needs.result.now c.args.place 0 in
    let row = c.in-Some.row.now in
    let records = arc_value c.args.records.now in
    let outputs = c.args.outputs.now in
    let listed : slice_get (needs rows) c.args.place ≡ Some p = listed-at c.needs.result.now (needs rows) c.args.place 0 c.requires.place c.needs.ensures in
    let next = next-row rows (length records) c.args.place p row c.requires.within listed (sym c.row.ensures ∙ ap option_copied c.in-Some.is) in
    let range = range_of row in
    let made = c.in_ok-artifacts_of_row.ensures ∙ ap (λ held. opening_artifacts c.args.step.now (records_in records range) held range) c.in_ok-held.ensures in
    let whole = artifacts-more c.args.step.now outputs rows records c.args.place p row next in
    let rest = map (opening_artifacts_for c.args.step.now records outputs) (drop (c.args.place + 1) (unfinished rows)) in
    artifacts-added _ c.args.all.now.items c.push.new.self.items c.in_ok-artifacts_of_row.field-0 rest _ c.in_ok-push.ensures.items (whole ∙ ap (λ w. w ∷ rest) (sym made))
