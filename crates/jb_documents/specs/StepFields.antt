-- The data of a step that a JSON tree holds, or its first fault (own choice). The data are the records to be read, a prefix for
-- each result, the beginning of the items that are filtered, and planned faults.
use Rattle.std.specs.Prelude.{ℕ, List, [], ◌∷◌, length, Option, Some, None, Ok}
use Rattle.serde_json.specs.Data.{Data}
use Rattle.jb_job.specs.declared.field.Field.{Field}
use Rattle.jb_job.specs.declared.field.Field.TheVariants as field
use Rattle.jb_job.specs.Reading.{Read, ◌>>=◌, object_at, text_at, list_at, each_at, required, optional}
use Rattle.jb_base.specs.Limits.{max_records, max_record, max_affix}
use Rattle.jb_documents.specs.FaultLists.{no_faults, step_faults_at}
use Rattle.jb_documents.specs.declared.run.step_data.StepData.{StepData}

unfoldable pub records_at : Field → Data → Read (List (List ℕ))
records_at f d = list_at 0 max_records f d >>= each_at (λ _. text_at 0 max_record f)

unfoldable pub drop_at : Field → Data → Read (Option (List ℕ))
drop_at f d = text_at 1 max_affix f d >>= λ text. Ok (Some text)

unfoldable pub data_at : (classes : List (List ℕ)) → Data → Read StepData
data_at classes d = do
  fields ← object_at field.Data (field.Records ∷ field.Prefix ∷ field.Drop ∷ field.Faults ∷ []) d
  records ← required records_at field.Records fields
  prefix ← optional (text_at 0 max_affix) [] field.Prefix fields
  drop ← optional drop_at None field.Drop fields
  faults ← optional (step_faults_at classes (length records)) no_faults field.Faults fields
  Ok (record { records = records; prefix = prefix; drop = drop; faults = faults })
