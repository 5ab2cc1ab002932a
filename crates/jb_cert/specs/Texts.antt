-- How certificates and faults are printed.
use Rattle.std.specs.Prelude.{ℕ, List, ◌++◌, codes, decimal}
use Rattle.jb_cert.specs.declared.certificates.Certificate.{Certificate}
use Rattle.jb_cert.specs.declared.certificates.Certificate.TheVariants.{Nothing, Longest, FullLoad}
use Rattle.jb_cert.specs.declared.plans.PlanFault.{PlanFault}
use Rattle.jb_cert.specs.declared.plans.PlanFault.TheVariants.{LaneRange, TwiceInRound, OutOfOrder, Missing, Stranger, Memory}

abbrev pub certificate_text : Certificate → List ℕ
certificate_text Nothing = codes "Nothing"
certificate_text (Longest p) = codes "Longest(" ++ (decimal p ++ codes ")")
certificate_text FullLoad = codes "FullLoad"

abbrev pub plan_fault_text : PlanFault → List ℕ
plan_fault_text LaneRange = codes "LaneRange"
plan_fault_text TwiceInRound = codes "TwiceInRound"
plan_fault_text OutOfOrder = codes "OutOfOrder"
plan_fault_text Missing = codes "Missing"
plan_fault_text Stranger = codes "Stranger"
plan_fault_text Memory = codes "no memory"
