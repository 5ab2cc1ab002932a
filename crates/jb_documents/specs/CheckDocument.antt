-- The document of `check` that a JSON tree holds, or its first fault. Each line of a block below is a row of the
-- document's table of fields, in the order in which they are checked. The form is this project's own choice.
use Rattle.std.specs.Prelude.{◌≡◌, ℕ, ◌&&◌, nat_le, List, [], ◌∷◌, codes, bytes_eq, Option, Some, None, Ok, Err, if◌then◌else◌}
use Rattle.serde_json.specs.Data.{Data}
use Rattle.serde_json.specs.Find.{as_array, as_str}
use Rattle.jb_job.specs.declared.field.Field.{Field}
use Rattle.jb_job.specs.declared.field.Field.TheVariants as field
use Rattle.jb_job.specs.declared.error.JobError.{JobError}
use Rattle.jb_job.specs.Reading.{wrong_shape, GivesOfText, tree_of, Read, ◌>>=◌, shaped, ranged, object_at, number_at, triple_at, each_at, required, whole_number}
use Rattle.jb_cert.specs.declared.plans.Slot.{Slot}
use Rattle.jb_cert.specs.declared.certificates.Certificate.{Certificate}
use Rattle.jb_cert.specs.declared.certificates.Certificate.TheVariants.{Nothing, Longest, FullLoad}
use Rattle.jb_base.specs.Limits.{max_place, max_threads}
use Rattle.jb_cert.specs.Plans.{plan_rounds}
use Rattle.jb_documents.specs.PlanDocument.{counts_at}
use Rattle.jb_documents.specs.declared.check.claim.PlanClaim.{PlanClaim}

-- ---- rounds: each a list of triples [lane, partition, chunk]

-- three numbers, and then the ranges of lane and partition
unfoldable pub slot_at : Field → Data → Read Slot
slot_at f d = do
  triple ← triple_at f d
  lane ← shaped f (whole_number triple.0)
  partition ← shaped f (whole_number triple.1)
  chunk ← shaped f (whole_number triple.2)
  ranged f (nat_le lane max_place && nat_le partition max_place) (record { lane = lane; partition = partition; chunk = chunk })

unfoldable pub round_at : Field → Data → Read (List Slot)
round_at f d = shaped f (as_array d) >>= each_at (λ _. slot_at f)

unfoldable pub rounds_at : Field → Data → Read (List (List Slot))
rounds_at f d = shaped f (as_array d) >>= each_at (λ _. round_at f)

-- ---- certificate: the text Nothing or FullLoad, or for the longest partition its number

abbrev pub named_certificate : Field → (name : List ℕ) → Read Certificate
named_certificate f name =
    if bytes_eq name (codes "Nothing") then Ok Nothing
    else (if bytes_eq name (codes "FullLoad") then Ok FullLoad else Err (wrong_shape f))

abbrev pub certificate_by : (name : Option (List ℕ)) → Field → Data → Read Certificate
certificate_by (Some name) f d = named_certificate f name
certificate_by None f d = number_at 0 max_place f d >>= λ partition. Ok (Longest partition)

unfoldable pub certificate_at : Field → Data → Read Certificate
certificate_at f d = certificate_by (as_str d) f d

-- ---- the document

-- a plan and its certificate, for these counts and threads
pub record Claim : Type 0 where
  pub counts : List ℕ
  pub threads : ℕ
  pub rounds : List (List Slot)
  pub certificate : Certificate

unfoldable pub check_document_at : Data → Read Claim
check_document_at d = do
  document ← object_at field.Unknown (field.Counts ∷ field.Threads ∷ field.Rounds ∷ field.Certificate ∷ []) d
  counts ← required counts_at field.Counts document
  threads ← required (number_at 1 max_threads) field.Threads document
  rounds ← required rounds_at field.Rounds document
  certificate ← required certificate_at field.Certificate document
  Ok (record { counts = counts; threads = threads; rounds = rounds; certificate = certificate })

-- what code holds, as the claim that it means
abbrev pub claim_of : PlanClaim → Claim
claim_of c = record { counts = c.load.counts; threads = c.load.threads; rounds = plan_rounds c.plan; certificate = c.certificate }

-- The bytes are the text of a document, and it makes this claim.
abbrev pub Claims : Claim → List ℕ → Type 0
Claims claim bytes = (tree : Data) × (tree_of bytes ≡ Some tree) × (check_document_at tree ≡ Ok claim)

-- The bytes are refused for this fault: they have no tree, or it is the first fault of the document.
abbrev pub IsRefusedClaim : JobError → List ℕ → Type 0
IsRefusedClaim fault bytes = GivesOfText {X = Claim} (λ claim. claim) check_document_at (Err fault) (tree_of bytes)
