use Rattle.std.proofs.Common.{rules, ◌≡◌, Err, arith}
use Rattle.jb_collect.proofs.Delivering.{next_done, stop_done}
use Rattle.jb_collect.proofs.delivery.deliver.Goals as goal

pub returns-in_err-tell_done : goal.returns-in_err-tell_done
returns-in_err-tell_done g c =
    let told : c.from_residual.result ≡ Err c.in_err-tell_done.field-0.0 = search rules in
    stop_done g.T.PartitionTask.task_state _ _ _ c.args.dones.now c.loop-done.done-index c.done-item.result c.in_err-tell_done.field-0.0 c.from_residual.result
    (omega arith) c.done-item.is c.loop-done.invariant c.in_err-tell_done.ensures told

pub loop-done-preserved : goal.loop-done-preserved
loop-done-preserved g c =
    next_done g.T.PartitionTask.task_state _ _ _ c.args.dones.now c.loop-done.done-index c.done-item.result
    (omega arith) c.done-item.is c.loop-done.invariant c.in_ok-tell_done.ensures
