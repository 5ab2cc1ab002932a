use Rattle.std.proofs.Common.{◌≡◌, ◌∙◌, Bool, false, Option, Some, None, List, ap, refl}
use Rattle.std.specs.Prelude.{IfSome}
use Rattle.jb_base.specs.declared.range.Range.{Range}
use Rattle.jb_rules.specs.declared.row.Row.{Row}
use Rattle.jb_saved.specs.GoingOn.{rows_restarted}
use Rattle.jb_saved.specs.SavedRows.{SavedRows}
use Rattle.jb_step.specs.preparing.Setup.{gone_on, opening_rows}
use Rattle.jb_records.specs.declared.error.RecordsStepError.TheVariants.{Step}
use Rattle.jb_records.proofs.Causes.{handed-on, unprepared}
use Rattle.jb_records.proofs.Evenly.{none-replaced, ranges-in-order}
use Rattle.jb_records.proofs.job.prepared_by.Goals as goal

-- a step that goes on has the rows that were saved
again : (ranges : List Range) (saved : Option SavedRows) (rows : List Row) → rows ≡ opening_rows ranges saved → IfSome saved (λ held. rows ≡ rows_restarted held)
again ranges None rows is = tt
again ranges (Some held) rows is = is

-- no plan of an even mapper's overrides them
gone : (ranges : List Range) (replace : Bool) (saved : Option SavedRows) (rows : List Row) → replace ≡ false → rows ≡ opening_rows ranges (gone_on replace saved) → rows ≡ opening_rows ranges saved
gone ranges replace saved rows none is = is ∙ ap (λ (b : Bool). opening_rows ranges (gone_on b saved)) none

pub returns-clause-new : goal.returns-clause-new
returns-clause-new g c none =
    let its = c.in_ok-prepared.ensures.prepared in
    let even = c.requires.mapped in
    let rows = gone its.plan.ranges its.plan.replace c.args.saved _ (none-replaced _ _ c.args.partitions c.args.threads its.plan even its.mapping) its.rows in
    record {
      ranges = its.plan.ranges;
      order = ranges-in-order _ _ c.args.partitions c.args.threads its.plan c.requires.some even its.mapping;
      rows = rows ∙ ap (opening_rows its.plan.ranges) none;
    }

pub returns-clause-resumed : goal.returns-clause-resumed
returns-clause-resumed g c =
    let its = c.in_ok-prepared.ensures.prepared in
    again _ c.args.saved _ (gone its.plan.ranges its.plan.replace c.args.saved _ (none-replaced _ _ c.args.partitions c.args.threads its.plan c.requires.mapped its.mapping) its.rows)

pub returns-in_err-prepared-clause-why : goal.returns-in_err-prepared-clause-why
returns-in_err-prepared-clause-why g c =
    handed-on c.from_residual.result (Step c.in_err-prepared.field-0.0) _ c.from_residual.ensures.1
    (unprepared c.args.step.now c.args.records _ _ c.args.saved _ c.prepare.new.reducer c.in_err-prepared.field-0.0 c.requires.mapped refl c.in_err-prepared.ensures.refused)
