use Rattle.std.proofs.Common.{◌∙◌, ap, map}
use Rattle.jb_csv_job.{specs.Job.{identity_of}, specs.Skipped.{IsSliceListed, skipped_by}}
use Rattle.jb_csv_job.proofs.skipped.list_slice.Goals as goal

pub returns-in-Ok-clause-listed : goal.returns-in-Ok-clause-listed
returns-in-Ok-clause-listed g c =
    let job = c.args.job.now in
    let names = (identity_of job).classes.names in
    let first = c.in_ok-first_record-in-Some.field-0 in
    let rows = c.in_ok-rows-in-Some.rows in
    let faults = c.in_ok-faults-in-Some.ensures in
    let are = c.in_ok-rows-in-Some.ensures ∙ ap (map (skipped_by names c.args.records.now c.args.lines.now first)) c.deref.ensures.value in
    let listed : IsSliceListed names c.args.records.now c.args.lines.now first c.args.end.now rows =
    record { faults = c.in_ok-faults-in-Some.faults.items; skipped = faults.skipped; failed = faults.failed; rows_are = are } in
    rw c.in-Some.is (λ start before took. (rows, c.in-Ok.ensures.taken start before took, rw c.in_ok-first_record-in-Some.ensures.first at listed))
