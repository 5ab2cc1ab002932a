use Rattle.std.proofs.Common.{◌≡◌, map, take}
use Rattle.jb_rows.specs.Fields.{fields_in}
use Rattle.jb_csv_job.specs.Skipped.{skipped_by}
use Rattle.jb_csv_job.proofs.skipped.rows_of.Given as goal

-- the lines so far are those of the faults that have been passed
abbrev pub invariant-loop-fault : goal.invariant-loop-fault
invariant-loop-fault l = map fields_in l.rows ≡ map (skipped_by (map (λ class. class.name.now) l.classes) l.of.records.now l.of.lines.now l.of.first) (take l.fault-index l.faults)
