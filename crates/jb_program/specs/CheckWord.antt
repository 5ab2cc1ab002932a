-- What `check` finds and leaves.
use Rattle.std.specs.Prelude.{◌≡◌, ℕ, ◌↔◌, IsTrue, List, length, Option, Some, None, IfSome}
use Rattle.std.specs.Io.KnownBytes.{Appends}
use Rattle.jb_cert.specs.declared.plans.PlanFault.{PlanFault}
use Rattle.jb_cert.specs.Lawful.{NoneIsShorter}
use Rattle.jb_cert.specs.Certificates.{Holds}
use Rattle.jb_cert.specs.Faults.{first_plan_fault}
use Rattle.jb_cert.specs.Plans.{StandsForLawful, StandsForLeast}
use Rattle.jb_documents.specs.CheckDocument.{Claim, Claims}
use Rattle.jb_texts.specs.declared.judgement.Judgement.{Judgement}
use Rattle.jb_texts.specs.Front.{AppendsFront}
use Rattle.jb_texts.specs.CheckText.{check_status, check_text}

-- the claim's plan is valid (it has no fault)
abbrev pub IsLawfulClaim : Claim → Type 0
IsLawfulClaim claim = StandsForLawful claim.counts claim.threads claim.rounds

-- this plan is valid, and no valid plan for these counts and threads has fewer rounds
abbrev pub IsLeastClaim : Claim → Type 0
IsLeastClaim claim = StandsForLeast claim.counts claim.threads claim.rounds

-- The fault found, if there is one, is the plan's first. The certificate is judged for the plan's own rounds: if it
-- holds, no valid plan has fewer.
pub record IsJudgementOf (claim : Claim) (found : Judgement) : Type 0 where
  pub lawful : found.fault ≡ None → IsLawfulClaim claim
  pub first : (fault : PlanFault) → found.fault ≡ Some fault → first_plan_fault claim.counts claim.threads claim.rounds ≡ Some fault
  pub unlawful : (fault : PlanFault) → found.fault ≡ Some fault → IsLawfulClaim claim → ⊥
  pub certificate : IsTrue found.certified ↔ Holds claim.counts claim.threads (length claim.rounds) claim.certificate
  pub shortest : IsTrue found.certified → NoneIsShorter claim.counts claim.threads (length claim.rounds)

-- The writer holds two lines more, on the fault that was found and on the certificate. A status of 0 means a least plan.
pub record IsClaimAnswer (claim : Claim) (old new : Option (List ℕ)) (status : ℕ) : Type 0 where
  pub found : Judgement
  pub judged : IsJudgementOf claim found
  pub written : Appends old new (check_text found)
  pub status_is : status ≡ check_status found
  pub least : status ≡ 0 → IsLeastClaim claim

-- Where `check` ended well, it answered the claim of the reader's bytes.
pub record IsCheckAnswer (input old new : Option (List ℕ)) (status : ℕ) : Type 0 where
  pub claim : Claim
  pub answered : IsClaimAnswer claim old new status
  pub claimed : IfSome input (Claims claim)

-- The writer holds the front of the lines on the claim more.
abbrev pub IsClaimFront : Claim → (old new : Option (List ℕ)) → Type 0
IsClaimFront claim old new = (found : Judgement) × IsJudgementOf claim found × AppendsFront old new (check_text found)

-- The same of the claim of the reader's bytes.
abbrev pub IsCheckFront : (input old new : Option (List ℕ)) → Type 0
IsCheckFront input old new = (claim : Claim) × IsClaimFront claim old new × IfSome input (Claims claim)
