use Rattle.std.proofs.Common.{◌≡◌, ◌∙◌, inr, sym, Some}
use Rattle.jb_cert.specs.Plans.{plan_rounds}
use Rattle.jb_cert.specs.inside.Walk.{found_fault}
use Rattle.jb_cert.proofs.Faultless.{lawful_from_no_fault, no_fault_from_lawful}
use Rattle.jb_cert.proofs.FirstFault.{first_plan_fault-is}
use Rattle.jb_cert.proofs.checker.check_plan.Goals as goal

pub returns-in-Some-clause-unlawful : goal.returns-in-Some-clause-unlawful
returns-in-Some-clause-unlawful c = inr (λ lawful.
    let none = no_fault_from_lawful c.args.counts.now c.args.threads (plan_rounds c.args.plan.now) lawful in
    let some : Some c.in-Some.fault ≡ found_fault c.args.counts.now c.args.threads (plan_rounds c.args.plan.now) = c.in-Some.ensures in
    cc)

pub returns-clause-lawful : goal.returns-clause-lawful
returns-clause-lawful c = lawful_from_no_fault c.args.counts.now c.args.threads (plan_rounds c.args.plan.now) (sym c.in-None.ensures)

pub returns-in-Some-clause-first : goal.returns-in-Some-clause-first
returns-in-Some-clause-first c =
    inr (first_plan_fault-is c.args.counts.now c.args.threads (plan_rounds c.args.plan.now) ∙ sym c.in-Some.ensures)
