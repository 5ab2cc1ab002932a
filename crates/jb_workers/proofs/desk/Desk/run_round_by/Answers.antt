use Rattle.std.proofs.Common.{rules, ◌≡◌, Err, subst}
use Rattle.jb_workers.specs.Round.{AreDones}
use Rattle.jb_workers.proofs.Reporting.{dones-from-reports, round-refused, unanswered}
use Rattle.jb_workers.proofs.desk.Desk.run_round_by.Goals as goal

pub returns-in_err-dones-clause-error : goal.returns-in_err-dones-clause-error
returns-in_err-dones-clause-error g c =
    let is : c.from_residual-in_err-dones.result ≡ Err c.in_err-dones.field-0.0 = search rules in
    rw is (unanswered g.T.PartitionTask.task_state _ _ _ _ c.in_ok-works.ensures.order c.in_ok-reports.ensures.reports c.in_err-dones.ensures.refused)

pub returns-in-Ok-clause-round : goal.returns-in-Ok-clause-round
returns-in-Ok-clause-round g c = record {
  ordered = c.in_ok-works.works.items;
  order = c.in_ok-works.ensures.order;
  each = dones-from-reports g.T.PartitionTask.task_state _ _ _ c.in_ok-reports.ensures.reports c.in_ok-dones.ensures.dones;
}

pub returns-in-Ok-clause-in_order : goal.returns-in-Ok-clause-in_order
returns-in-Ok-clause-in_order g c rising =
    subst (λ works. AreDones g.T.PartitionTask.task_state works c.in_ok-dones.dones.items) (c.in_ok-works.ensures.same rising)
    (dones-from-reports g.T.PartitionTask.task_state _ _ _ c.in_ok-reports.ensures.reports c.in_ok-dones.ensures.dones)

pub returns-in-Err-clause-error : goal.returns-in-Err-clause-error
returns-in-Err-clause-error g c =
    round-refused g.T.PartitionTask.task_state _ _ _ _ c.in_ok-works.ensures.order c.in_ok-reports.ensures.reports c.in_ok-dones.ensures.all c.in-Err.ensures.refused
