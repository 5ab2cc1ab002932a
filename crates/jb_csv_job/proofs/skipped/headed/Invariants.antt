use Rattle.std.proofs.Common.{◌≡◌, map, take}
use Rattle.jb_rows.specs.Fields.{fields_in}
use Rattle.jb_csv_job.specs.Skipped.{skipped_header}
use Rattle.jb_csv_job.proofs.skipped.headed.Given as goal

-- the rows so far are those of the header rows that have been passed
abbrev pub invariant-loop-index : goal.invariant-loop-index
invariant-loop-index l = map fields_in l.rows ≡ map skipped_header (take l.index (map fields_in l.headers))
