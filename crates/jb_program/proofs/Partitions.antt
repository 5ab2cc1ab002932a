-- What the plain run of a partition leaves.
use Rattle.std.proofs.Common.{◌≡◌, map, ap}
use Rattle.std.specs.Str.Lossy.{utf8_lossy}
use Rattle.jb_chunk.specs.TaskState.{TaskState}
use Rattle.jb_chunk.specs.Plain.{IsPlain}
use Rattle.jb_program.specs.PartitionRun.{plain_report, report_of}

-- where no call fails, what is left is plain
pub same-report : (after : TaskState) (begun : TaskState) → IsPlain begun after → report_of after ≡ plain_report begun
same-report after begun plain = λ i. record { row = plain.0 i; outputs = ap (map utf8_lossy) plain.1 i }
