-- A claim that is found in order is a least plan.
use Rattle.std.proofs.Common.{◌≡◌, Bool, true, false, Option, Some, None, refl, arith}
use Rattle.jb_cert.specs.declared.plans.PlanFault.{PlanFault}
use Rattle.jb_documents.specs.CheckDocument.{Claim}
use Rattle.jb_texts.specs.declared.judgement.Judgement.{Judgement}
use Rattle.jb_texts.specs.CheckText.{check_status, status_by}
use Rattle.jb_program.specs.CheckWord.{IsJudgementOf, IsLeastClaim}

least_by : (claim : Claim) (fault : Option PlanFault) (certified : Bool) → IsJudgementOf claim (record { fault = fault; certified = certified }) → status_by fault certified ≡ 0 → IsLeastClaim claim
least_by claim None true judged is = record { lawful = judged.lawful refl; least = judged.shortest refl }
least_by claim None false judged is = absurd (omega (arith, is))
least_by claim (Some fault) certified judged is = absurd (omega (arith, is))

pub least_claim : (claim : Claim) (found : Judgement) → IsJudgementOf claim found → check_status found ≡ 0 → IsLeastClaim claim
least_claim claim found judged is = least_by claim found.fault found.certified judged is

pub ruleset least = (least_claim, least_claim)
