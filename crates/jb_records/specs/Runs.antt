-- What comes of a partition's attempts.
use Rattle.std.specs.Prelude.{ℕ, ◌≡◌, ◌≤◌, ◌+◌, List, length}
use Rattle.jb_rules.specs.declared.row.RowState.TheVariants.{Finished}
use Rattle.jb_chunk.specs.Alone.{IsOnTheWay}
use Rattle.jb_chunk.specs.TaskState.{IsReady, TaskState}
use Rattle.jb_records.specs.Function.{Function}
use Rattle.jb_records.specs.Artifacts.{IsArtifactsOver, own_records, results_between}

-- the partition has its range's records, and the results of those before its checkpoint: each once, in order
pub record HasResults (f : Function) (records : List (List ℕ)) (t : TaskState) : Type 0 where
  pub artifacts : IsArtifactsOver f t.rules t.row.lo (own_records records t.row) t.artifacts
  pub from : t.row.lo ≤ t.row.at
  pub served : t.row.hi ≤ t.row.lo + length (own_records records t.row)
  pub results : t.artifacts.writer.written ≡ results_between f t.row.lo (own_records records t.row) t.row.lo t.row.at
  pub number : length t.artifacts.writer.written ≡ t.row.written
  pub whole : t.row.state ≡ Finished → t.row.at ≡ t.row.hi

-- wherever its attempts lead, it has the results of the records before its checkpoint
abbrev pub ResultsGoOn : Type 0
ResultsGoOn = (f : Function) (records : List (List ℕ)) (t s : TaskState) → IsReady t → HasResults f records t → IsOnTheWay t s → HasResults f records s

-- and it is the same partition, with the same range
pub record IsSamePart (t s : TaskState) : Type 0 where
  pub partition : s.partition ≡ t.partition
  pub lo : s.row.lo ≡ t.row.lo
  pub hi : s.row.hi ≡ t.row.hi

abbrev pub PartsStay : Type 0
PartsStay = (t s : TaskState) → IsOnTheWay t s → IsSamePart t s
