use Rattle.std.proofs.Common.{rules}
use Rattle.jb_job.proofs.field.Field.name.Goals as goal

pub returns-in-SkipLimit : goal.returns-in-SkipLimit
returns-in-SkipLimit c = search rules
