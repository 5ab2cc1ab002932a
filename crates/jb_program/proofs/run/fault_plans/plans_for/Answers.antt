use Rattle.std.proofs.Common.{◌++◌, ◌∷◌, [], take, ap, sym, ◌∙◌}
use Rattle.std.proofs.lemmas.List.{take_more}
use Rattle.jb_artifacts.specs.Faults.{with_plan}
use Rattle.jb_program.specs.PartitionRun.{fault_plan_of, fault_plans}
use Rattle.jb_program.proofs.FaultPlans.{plans-more}
use Rattle.jb_program.proofs.run.fault_plans.plans_for.Goals as goal

pub loop-fault-preserved : goal.loop-fault-preserved
loop-fault-preserved c =
    let own = c.faults_in-fault-items.result.now in
    let fault = c.fault-item.result in
    let i = c.loop-fault.fault-index in
    c.in_ok-put_plan.ensures ∙ ap (λ plans. with_plan plans fault.number (fault_plan_of fault.kind)) c.loop-fault.invariant ∙ sym (plans-more (take i own) fault)
    ∙ ap (λ one. fault_plans (take i own ++ one ∷ [])) c.fault-item.is ∙ sym (ap fault_plans (take_more own i fault c.loop-fault-test.true))
