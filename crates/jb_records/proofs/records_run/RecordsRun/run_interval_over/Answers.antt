use Rattle.std.proofs.Common.{◌∙◌, ap, map, refl, sym}
use Rattle.jb_records.proofs.Breaking.{broke-off}
use Rattle.jb_records.proofs.Causes.{handed-on}
use Rattle.jb_records.proofs.RunningOn.{goes-on, made-of}
use Rattle.jb_records.proofs.records_run.RecordsRun.run_interval_over.Goals as goal

pub returns-in_err-end-clause-why : goal.returns-in_err-end-clause-why
returns-in_err-end-clause-why g c f records stands =
    let e = c.in_err-end.field-0.0 in
    handed-on c.from_residual-in_err-end.result e _ c.from_residual-in_err-end.ensures.1 (broke-off _ e c.in_err-end.ensures.why (c.intervals_go_on.ensures.fit f records _ stands))

pub returns-in_err-run-clause-why : goal.returns-in_err-run-clause-why
returns-in_err-run-clause-why g c f records stands =
    let e = c.in_err-run.field-0.0 in
    let saved = c.intervals_go_on.ensures.saved f records _ c.args.rounds c.in_ok-end.end.snapshot _ stands c.in_ok-end.ensures.ran in
    handed-on c.from_residual-in_err-run.result e _ c.from_residual-in_err-run.ensures.1 (c.in_err-run.ensures.why saved.0 saved.1)

pub returns-clause-made : goal.returns-clause-made
returns-clause-made g c =
    made-of _ _ c.args.rounds _ _ _ _ _ c.in_ok-end.ensures.ran c.in_ok-run.ensures.state (sym c.args.self.same_rules) (c.in_ok-run.ensures.items ∙ sym c.args.self.same_items)

pub returns-clause-goes_on : goal.returns-clause-goes_on
returns-clause-goes_on g c f records stands =
    goes-on c.intervals_go_on.ensures.on f records _ _ c.args.self.results.items c.args.rounds c.in_ok-end.end.snapshot _ _ _ _ _ _ _ _ _ stands refl c.in_ok-end.ensures.ran (sym c.args.self.same_rules)
    c.deref-3.ensures.value c.in_ok-finished.ensures.finished c.in_ok-finished.ensures.left c.put_back-results.ensures c.in_ok-run.ensures.state (c.deref.ensures.value ∙ c.in_ok-written_before.ensures) (ap (map _) c.deref-2.ensures.value) c.in_ok-new_results.ensures
