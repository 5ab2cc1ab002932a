use Rattle.std.proofs.Common.{ap, option_map, ◌∙◌}
use Rattle.jb_slice_run.{specs.Held.{faults_in}, proofs.Faulted.{none-new}}
use Rattle.jb_slice_run.proofs.faults.new_skips.Goals as goal

pub returns-then-row-skips_before : goal.returns-then-row-skips_before
returns-then-row-skips_before g c rules can =
    ap faults_in c.new.ensures.items
    ∙ none-new (g.F.RowFunction.answer c.args.function.now) c.args.first c.args.items.now rules (option_map (λ r. r.now) c.args.before) c.args.row.now can (c.if-row-skips_before.true ∙ c.skips_before.ensures)
