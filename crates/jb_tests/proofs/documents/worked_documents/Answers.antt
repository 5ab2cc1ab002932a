use Rattle.std.proofs.Common.{refl}
use Rattle.std.specs.Str.{is_utf8, chars}
use Rattle.std.specs.Char.{encode_utf8}
use Rattle.serde_json.proofs.OnLiterals.{serde_json_on_literals}
use Rattle.jb_job.specs.Reading.{object_at, text_at, number_at, list_at, triple_at, required}
use Rattle.jb_documents.specs.PlanDocument.{counts_at, plan_document_at}
use Rattle.jb_documents.specs.CheckDocument.{slot_at, round_at, rounds_at, certificate_at, check_document_at}
use Rattle.jb_tests.proofs.documents.worked_documents.Goals as goal

pub returns : goal.returns
unfolding serde_json_on_literals is_utf8 chars encode_utf8 object_at text_at number_at list_at triple_at required counts_at plan_document_at slot_at round_at rounds_at certificate_at check_document_at
returns c = record { plan = (_, refl, refl); check = (_, refl, refl) }
