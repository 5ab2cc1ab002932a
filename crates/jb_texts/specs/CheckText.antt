-- What `check` prints and answers. The form is this project's own choice.
use Rattle.std.specs.Prelude.{ℕ, Bool, true, false, List, ◌++◌, codes, Option, Some, None}
use Rattle.jb_cert.specs.declared.plans.PlanFault.{PlanFault}
use Rattle.jb_cert.specs.Texts.{plan_fault_text}
use Rattle.jb_texts.specs.declared.judgement.Judgement.{Judgement}

abbrev pub plan_word : Option PlanFault → List ℕ
plan_word None = codes "lawful"
plan_word (Some fault) = plan_fault_text fault

abbrev pub certificate_word : Bool → List ℕ
certificate_word true = codes "yes"
certificate_word false = codes "no"

-- two lines
unfoldable pub check_text : Judgement → List ℕ
check_text found = codes "plan " ++ (plan_word found.fault ++ (codes "\ncertificate " ++ (certificate_word found.certified ++ codes "\n")))

-- 0 if the plan has no fault and its certificate holds, else 1
abbrev pub status_by : Option PlanFault → Bool → ℕ
status_by None true = 0
status_by None false = 1
status_by (Some fault) certified = 1

abbrev pub check_status : Judgement → ℕ
check_status found = status_by found.fault found.certified
