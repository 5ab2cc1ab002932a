use Rattle.std.proofs.Common.{◌≡◌, ◌++◌, map}
use Rattle.jb_rows.specs.Fields.{fields_in}
use Rattle.jb_csv_job.{specs.Skipped.{skipped_by}, proofs.Skipping.{fields-after, name-is, one-line}}
use Rattle.jb_csv_job.proofs.skipped.rows_of.Goals as goal

pub loop-fault-preserved : goal.loop-fault-preserved
loop-fault-preserved c =
    let of = c.args.of.now in
    let fault = c.fault-item.result in
    let line = skipped_by (map (λ class. class.name.now) c.args.classes.now) of.records.now of.lines.now of.first in
    let bytes = c.as_bytes.result.now ++ c.record_at-record.result.now in
    let said : fields_in bytes ≡ line fault = rw (c.as_bytes.ensures.packed, fields-after, c.in_ok-head_of.ensures, c.record_at-record.ensures, name-is) in
    one-line line c.args.faults.now c.loop-fault.fault-index fault fault c.loop-fault.rows c.push_joined.new.self bytes c.loop-fault-test.true c.fault-item.is
    c.in_ok-push_joined.ensures.ok said c.loop-fault.invariant
