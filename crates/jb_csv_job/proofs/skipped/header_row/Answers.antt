use Rattle.std.proofs.Common.{◌≡◌, rules}
use Rattle.jb_rows.specs.declared.header.Header.TheVariants.{Copied}
use Rattle.jb_csv_job.proofs.skipped.header_row.Goals as goal

pub returns-in-Copied : goal.returns-in-Copied
returns-in-Copied c = let is : c.args.kind ≡ Copied = search rules in rw (is, ← c.as_list.ensures.fields) c.headed.ensures
