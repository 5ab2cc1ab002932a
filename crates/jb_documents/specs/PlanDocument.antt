-- The document of `plan` that a JSON tree holds, or its first fault. Each line of a block below is a row of the
-- document's table of fields, in the order in which they are checked. The form is this project's own choice.
use Rattle.std.specs.Prelude.{◌≡◌, ℕ, List, [], ◌∷◌, sum, nat_le, Some, Ok, Err}
use Rattle.serde_json.specs.Data.{Data}
use Rattle.jb_job.specs.declared.field.Field.{Field}
use Rattle.jb_job.specs.declared.field.Field.TheVariants as field
use Rattle.jb_job.specs.declared.error.JobError.{JobError}
use Rattle.jb_job.specs.Reading.{Read, ◌>>=◌, GivesOfText, tree_of, ranged, object_at, number_at, list_at, each_at, required}
use Rattle.jb_base.specs.Limits.{max_load_partitions, max_chunks, max_threads}
use Rattle.jb_cert.specs.Load.{Load}

-- how many chunks each partition has: each count, and then their sum, within the limit
unfoldable pub counts_at : Field → Data → Read (List ℕ)
counts_at f d = do
  items ← list_at 0 max_load_partitions f d
  counts ← each_at (λ _. number_at 0 max_chunks f) items
  ranged f (nat_le (sum counts) max_chunks) counts

unfoldable pub plan_document_at : Data → Read Load
plan_document_at d = do
  document ← object_at field.Unknown (field.Counts ∷ field.Threads ∷ []) d
  counts ← required counts_at field.Counts document
  threads ← required (number_at 1 max_threads) field.Threads document
  Ok (record { counts = counts; threads = threads })

-- The bytes are the text of a document, and it asks for this load.
abbrev pub AsksFor : Load → List ℕ → Type 0
AsksFor load bytes = (tree : Data) × (tree_of bytes ≡ Some tree) × (plan_document_at tree ≡ Ok load)

-- The bytes are refused for this fault: they have no tree, or it is the first fault of the document.
abbrev pub IsRefusedLoad : JobError → List ℕ → Type 0
IsRefusedLoad fault bytes = GivesOfText {X = Load} (λ load. load) plan_document_at (Err fault) (tree_of bytes)
